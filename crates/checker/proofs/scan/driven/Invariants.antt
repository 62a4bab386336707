use Prim.Native.Nat.{◌≤◌}
use Rattle.checker.specs.Drive.{on_table, Driving}
use Rattle.checker.proofs.scan.driven.Given as goal

abbrev pub invariant-loop-i : goal.invariant-loop-i
invariant-loop-i l = record { far : Driving (on_table l.roads l.places) l.from l.list l.u l.i; row : l.u ≤ 128 }
