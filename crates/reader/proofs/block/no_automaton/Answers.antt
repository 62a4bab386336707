-- `no_automaton` meets its contract: its moves are all zeros.
use mathlib.Core.Path.{◌≡◌}
use Rattle.automata.specs.Automaton.{no_move}
use Rattle.reader.proofs.block.no_automaton.Goals as goal

pub returns : goal.returns
returns c = let zeros : c.no_move.result ≡ no_move = c.no_move.ensures in rw zeros
