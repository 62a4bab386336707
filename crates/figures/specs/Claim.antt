-- What a figure claims, in terms of a plan file's bytes and of numbers.
--   Room, Fits room b   == what is asked of the lengths of run-in and loop buffer; the buffers b have it
--   Numbers             == what 01 says of an answer: its number, cost, kept byte and count
--   tour c k n          == the numbers of a tour
--   refusal n           == the numbers of a refusal
--   Tells x a           == the answer a tells the numbers x, and line 0
--   Answers text room x == a call of `plan_tour` on the plan file `text`, with an answer block that is long enough and such buffers,
--                          returns the number of x, and the sixteen bytes that it leaves in the block say x
--   Turned text n line  == a call on the plan file `text`, with an answer block that is long enough, returns the refusal n, and the block says n
--                          and that line
--   Repeated text v     == where a call on the plan file `text` returns 0, with an answer block that is long enough, the tour that it leaves is
--                          place v again and again: run-in and loop have no other
--   Dear p rule least   == every other soft rule of p weighs less than soft rule `rule` + 1, and some tour that the hard rule accepts
--                          keeps it; but every such tour costs at least `least`
--   Tied p rule k k'    == the sets k and k' cost the same, some tour that the hard rule accepts keeps k', and the first rule on which they
--                          differ is soft rule `rule` + 1, which k has; it weighs nothing
use Rattle.std.specs.Prelude.{◌≡◌, true, false, List, ◌≢◌, ℕ, ◌≤◌, ◌<◌, length, get_or, take}
use Rattle.plan.specs.WellFormed.{weight}
use Rattle.plan.specs.Tour.{IsLasso, Hard, Soft}
use Rattle.plan.specs.Cost.{keeps, KeptIs, cost}
use Rattle.plan.specs.declared.Plan.{Plan}
use Rattle.answer.specs.Block.{answer_of}
use Rattle.answer.specs.declared.Answer.{Answer}
use Rattle.moxiltra.specs.Entries.{Buffers, Promise}

pub data Room : Type 0 where
  at_least : (runin loop : ℕ) → Room
  exactly : (runin loop : ℕ) → Room

unfoldable pub Fits : Room → Buffers → Type 0
Fits (at_least runin loop) b = (runin ≤ length b.runin) × (loop ≤ length b.loop)
Fits (exactly runin loop) b = (length b.runin ≡ runin) × (length b.loop ≡ loop)

pub record Numbers : Type 0 where
  pub number : ℕ
  pub cost : ℕ
  pub kept : ℕ
  pub count : ℕ

abbrev pub tour : ℕ → ℕ → ℕ → Numbers
tour cost kept count = record { number = 0; cost = cost; kept = kept; count = count }

abbrev pub refusal : ℕ → Numbers
refusal number = record { number = number; cost = 0; kept = 0; count = 0 }

pub record Tells (x : Numbers) (a : Answer) : Type 0 where
  pub number : a.number ≡ x.number
  pub line : a.line ≡ 0
  pub cost : a.cost ≡ x.cost
  pub kept : a.kept ≡ x.kept
  pub count : a.count ≡ x.count

abbrev pub Answers : List ℕ → Room → Numbers → Type 0
Answers text room x =
    (b b' : Buffers) (r : ℕ) → 16 ≤ length b.block → Fits room b → Promise text b b' r → (r ≡ x.number) × Tells x (answer_of (take 16 b'.block))

abbrev pub Turned : List ℕ → ℕ → ℕ → Type 0
Turned text n line =
    (b b' : Buffers) (r : ℕ) → 16 ≤ length b.block → Promise text b b' r
    → (r ≡ n) × ((answer_of (take 16 b'.block)).number ≡ n) × ((answer_of (take 16 b'.block)).line ≡ line)

abbrev pub Repeated : List ℕ → ℕ → Type 0
Repeated text v =
    (b b' : Buffers) → 16 ≤ length b.block → Promise text b b' 0
    → (0 < (answer_of (take 16 b'.block)).cycle) × ((i : ℕ) → i < (answer_of (take 16 b'.block)).stem → get_or b'.runin i 0 ≡ v)
    × ((i : ℕ) → i < (answer_of (take 16 b'.block)).cycle → get_or b'.loop i 0 ≡ v)

pub record Dear (p : Plan) (rule least : ℕ) : Type 0 where
  pub listed : rule < p.rules
  pub heaviest : (i : ℕ) → i < p.rules → i ≢ rule → weight p i < weight p rule
  pub stem : List ℕ
  pub cycle : List ℕ
  pub lasso : IsLasso p stem cycle
  pub hard : Hard p stem cycle
  pub kept : Soft p stem cycle rule
  pub dear : (stem cycle : List ℕ) → IsLasso p stem cycle → Hard p stem cycle → Soft p stem cycle rule → (k : ℕ) → KeptIs p stem cycle k → least ≤ cost p k

pub record Tied (p : Plan) (rule k k' : ℕ) : Type 0 where
  pub costs : cost p k ≡ cost p k'
  pub stem : List ℕ
  pub cycle : List ℕ
  pub lasso : IsLasso p stem cycle
  pub hard : Hard p stem cycle
  pub kept : (i : ℕ) → i < p.rules → keeps k' i ≡ true → Soft p stem cycle i
  pub listed : rule < p.rules
  pub before : (i : ℕ) → i < rule → keeps k i ≡ keeps k' i
  pub has : keeps k rule ≡ true
  pub lacks : keeps k' rule ≡ false
  pub watches : weight p rule ≡ 0
