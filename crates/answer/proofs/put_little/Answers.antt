-- `put_little` meets its contract: a turn stores the first byte of what is left.
use Rattle.std.proofs.Common.{◌≡◌, ℕ, suc, ◌+◌, ◌-◌, ◌/◌, ◌%◌, ◌≤◌, ◌<◌, List, [], ◌∷◌, ◌++◌, refl, sym, ◌∙◌, arith, length, take, drop, append_assoc, append-nil, length-take, length-drop, drop-drop}
use Rattle.std.proofs.lemmas.List.{take_all, take_more_set}
use lib.ListN.{set}
use borrow.Rule.Slice.PartMut.{put_mid}
use Rattle.text.specs.Over.{over, Wrote}
use Rattle.answer.specs.Block.{little}
use Rattle.answer.proofs.Blocks.{length_little}
use Rattle.answer.proofs.put_little.Goals as goal

next : (xs : List ℕ) (i n x : ℕ) → i < n → i < length xs
    → take i xs ++ little (n - i) x ≡ take (i + 1) (set xs i (x % 256)) ++ little (n - (i + 1)) (x / 256)
unfolding little
next xs i n x h k =
    let e : n - i ≡ suc (n - (i + 1)) = omega arith in
    rw (e, take_more_set xs i (x % 256) k) (sym (append_assoc (take i xs) (x % 256 ∷ []) (little (n - (i + 1)) (x / 256))))

end : (b xs : List ℕ) (at n i x rest : ℕ) → length xs ≡ n → n ≤ i → little n x ≡ take i xs ++ little (n - i) rest
    → Wrote b at (little n x) (put_mid at (at + n - at) b xs) (at + n)
unfolding over little
end b xs at n i x rest long h e =
    let z : n - i ≡ 0 = omega arith in
    let k : at + n - at ≡ n = omega arith in
    let same : little n x ≡ xs = e ∙ rw (z, take_all i xs (omega arith)) (append-nil xs) in
    record { place = rw (length_little n x); bytes = rw (same, k, drop-drop n at b, long) refl }

-- the part that is lent has n bytes
part : (b : List ℕ) (at n : ℕ) → at + n ≤ length b → length (take (at + n - at) (drop at b)) ≡ n
part b at n h = rw (length-take, length-drop) (omega arith)

pub loop-byte-preserved : goal.loop-byte-preserved
loop-byte-preserved c =
    let l = c.loop-byte in
    let e = part c.args.block.now c.args.at c.args.n c.requires in
    l.invariant ∙ next l.byte-items l.byte-index c.args.n l.rest (omega (arith, e)) (omega (arith, l.auto.byte-items))

pub returns : goal.returns
returns c =
    let l = c.loop-byte in
    let e = part c.args.block.now c.args.at c.args.n c.requires in
    end c.args.block.now l.byte-items c.args.at c.args.n l.byte-index c.args.x l.rest (l.auto.byte-items ∙ e) (omega (arith, e)) l.invariant
