-- A line that is read without a fault stands in the text as it would be written; a fault tells the line that has it.
--   next_at l              == the index at which the line behind l begins, 0 of a fault
--   Stood s at text next  == the bytes `text` stand in s at index `at`, and `next` is just past them
--   stood_join            == what stands one behind the other stands as one
--   starts-with           == a text that begins with a key is the key and then the rest
--   key_stood             == a key that is found stands there
--   number_stood          == a number that is read stands there in decimal, with the byte that ends it
--   commaed_some          == some numbers, each behind a comma, are a comma and then the numbers joined
--   entries_stood         == numbers that are read stand there, joined by commas, with the line's end
--   entries_enough        == so many numbers as the text has bytes may have a comma; were it more, nothing would change
--   items_stood           == so do those of a list, which may be empty
--   Follows s l text r    == the line r behind the line l: the fault of l again, or a fault of the line that begins where l ends, or
--                            `text` stands from there to where r ends
--   follows_good          == a line without a fault is behind one without a fault, and stands there
--   number_line s l key fit == a line `key=a` behind l, its number judged by fit
--   number_follows        == it follows l as key and decimal number
--   one_follows           == so does a line of one number in a range
--   ListFollows s l key bound r
--                         == so does a line r that holds a list, as key and joined numbers; without a fault it has as many numbers as
--                            it says, all below bound
--   list_follows          == every line that holds a list is such a one
--   finish_good           == if the text is found whole, its last line has no fault, and nothing stands behind it
--   newlines_append       == the line ends of two parts are those of both
--   newlines_decimal, newlines_joined == numbers have no line end
--   newlines_line         == a line whose key and value have none has one
--   stood_newlines        == the line ends up to what stands there, and with it
--   fault_line l           == the line of s that has the fault of l, 0 of none
--   Begun s k l           == l comes behind k lines of s: so many line ends are passed, or one of those lines has the fault
--   begun_top, begun_next == so it is before the first line, and from line to line
--   begun_finish          == bytes behind the last line are the next one
use mathlib.Core.Path.{◌≡◌, refl, sym, ap, subst, ◌∙◌}
use mathlib.Core.Bool.{Bool, true, false, cond, false≢true}
use mathlib.Core.List.{List, [], ◌∷◌, ◌++◌, append-nil, append_assoc}
use Prim.Native.Nat.{ℕ, zero, suc, ◌+◌, ◌%◌, ◌≤◌, ◌<◌}
use native.Mathlib.Numerals.{add-one}
use native.Mathlib.Omega.{arith}
use borrow.Author.Tests.{ltb-false, eqb-true, ne_eqb}
use lib.Dec.{ltb, eqb}
use lib.ListN.{length, take, drop, get_or, length-append, length-drop}
use lib.Seq.{drop-cons, drop-drop, take-add, take-append_seam}
use Rattle.std.specs.Prelude.{Option, Some, None, Ok, Err}
use Rattle.text.specs.Fault as fault
use Rattle.text.specs.Scan.{Number, starts_with, number_at, key_at, first_number, value_of, newlines, line_at}
use Rattle.text.specs.Line.{Line, behind, pair, bad_form, closed, within, line_of_one, first_of, top, finish, good}
use Rattle.text.specs.List.{Items, items, bad, ahead, last, entry, entries, items_at, under, ListLine, judged_list, list_behind, list_line, places_of}
use Rattle.text.specs.Decimal.{decimal}
use Rattle.text.specs.KeyLine.{commaed, joined, key_line}
use Rattle.text.specs.declared.fault.Fault.{Fault}
use Rattle.text.specs.declared.fault.Fault.TheVariants.{Range}
use Rattle.text.specs.declared.line.Numbers.{Numbers}
use Rattle.text.specs.declared.line.Cursor.{Cursor}
use Rattle.text.proofs.Decimals.{decimal_small, decimal_more, decimal_each}
use Rattle.text.proofs.Entries.{ends_inside}
use Rattle.text.proofs.Spelling.{Next, final, more, entries_some, entries_next}
use Rattle.text.proofs.WrittenBack.{pick_value, written_back}

abbrev pub next_at : Line → ℕ
next_at (Ok (xs, c)) = c.at
next_at (Err f) = 0

pub record Stood (s : List ℕ) (at : ℕ) (text : List ℕ) (next : ℕ) : Type 0 where
  pub bytes : drop at s ≡ text ++ drop next s
  pub place : next ≡ at + length text

pub stood_join : {s : List ℕ} {a : ℕ} {t : List ℕ} {b : ℕ} {u : List ℕ} {c : ℕ} → Stood s a t b → Stood s b u c → Stood s a (t ++ u) c
stood_join {s} {a} {t} {b} {u} {c} p q = record {
  bytes = p.bytes ∙ rw (q.bytes, append_assoc t u (drop c s));
  place = omega (arith, p.place, q.place, length-append t u);
}

starts-with : (key d : List ℕ) → starts_with key d ≡ true → d ≡ key ++ drop (length key) d
unfolding starts_with
starts-with [] d e = refl
starts-with (k ∷ ks) [] e = absurd (false≢true e)
starts-with (k ∷ ks) (b ∷ d) e = by (eqb b k) refl e (starts-with ks d)
  where
    by : (t : Bool) → eqb b k ≡ t → cond t (starts_with ks d) false ≡ true → (starts_with ks d ≡ true → d ≡ ks ++ drop (length ks) d)
        → (b ∷ d) ≡ (k ∷ ks) ++ drop (length (k ∷ ks)) (b ∷ d)
    by true h e rest = let same = eqb-true b k h in let others = rest e in cc
    by false h e rest = absurd (false≢true e)

module _ (s : List ℕ) (at : ℕ) where
  pub key_stood : (key : List ℕ) (i : ℕ) → key_at s at key ≡ Some i → Stood s at key i
  unfolding key_at
  key_stood key i e =
      let p = pick_value (starts_with key (drop at s)) _ i e in
      let past : at + length key ≡ i = cc p.1 in
      record { bytes = starts-with key (drop at s) p.0 ∙ rw (drop-drop (length key) at s, past); place = sym past }

  pub number_stood : (e v i : ℕ) → number_at s at e ≡ Some (v, i) → Stood s at (decimal v ++ (e ∷ [])) i
  number_stood e v i h =
      let w = written_back s at e v i h in
      record { bytes = w.0 ∙ rw append_assoc; place = simp length-append (omega (arith, w.1)) }

commaed_some : (vs : List ℕ) → 0 < length vs → commaed vs ≡ 44 ∷ joined vs
unfolding commaed joined
commaed_some [] h = absurd (omega arith)
commaed_some (v ∷ vs) h = refl

pub entries_stood : (s : List ℕ) (vs : List ℕ) (e k at : ℕ) → entries k s at ≡ items vs e → Stood s at (joined vs ++ (10 ∷ [])) e
unfolding joined commaed
entries_stood s [] e k at h = absurd (omega (arith, entries_some k s at [] e h))
entries_stood s (v ∷ vs) e k at h = by (entries_next s at v vs e k h) (entries_stood s vs e)
  where
    by : Next s at v vs e → ((k at : ℕ) → entries k s at ≡ items vs e → Stood s at (joined vs ++ (10 ∷ [])) e)
        → Stood s at (joined (v ∷ vs) ++ (10 ∷ [])) e
    by (final z p) rest = rw (z, append-nil) (number_stood s at 10 v e p)
    by (more j i some p q) rest =
        let same : (decimal v ++ (44 ∷ [])) ++ (joined vs ++ (10 ∷ [])) ≡ joined (v ∷ vs) ++ (10 ∷ []) =
        rw (append_assoc, append_assoc, commaed_some vs some) in
        subst (λ t. Stood s at t e) same (stood_join (number_stood s at 44 v i p) (rest j i q))

pub items_stood : (s : List ℕ) (at : ℕ) (vs : List ℕ) (e : ℕ) → items_at s at ≡ items vs e → Stood s at (joined vs ++ (10 ∷ [])) e
unfolding items_at joined
items_stood s at vs e h = by (eqb (get_or s at 0) 10) refl h
  where
    by : (t : Bool) → eqb (get_or s at 0) 10 ≡ t → cond t (items [] (at + 1)) (entries (length s) s at) ≡ items vs e
        → Stood s at (joined vs ++ (10 ∷ [])) e
    by true p g =
        let none : [] ≡ vs = cc g in
        let past : at + 1 ≡ e = cc g in
        rw (← none, ← past)
        (record { bytes = rw (add-one at) (drop-cons s at 0 (ends_inside s at p) ∙ rw (eqb-true (get_or s at 0) 10 p)); place = refl })
    by false p g = entries_stood s vs e (length s) at g

-- where no more bytes are left than numbers may yet have a comma, one more that may changes nothing
entries_more : (s : List ℕ) (k at : ℕ) → length s ≤ at + k → entries k s at ≡ entries (suc k) s at
unfolding entries
entries_more s zero at h = by (number_at s at 44) refl
  where
    by : (n : Number) → number_at s at 44 ≡ n → last (number_at s at 10) ≡ entry n (entries 0 s) (last (number_at s at 10))
    by (Some (v, i)) e =
        let stood = number_stood s at 44 v i e in
        absurd (omega (arith, stood.place, ap length stood.bytes, length-drop at s, length-append (decimal v ++ (44 ∷ [])) (drop i s), length-append (decimal v) (44 ∷ [])))
    by None e = refl
entries_more s (suc k) at h = by (number_at s at 44) refl (entries_more s k)
  where
    by : (n : Number) → number_at s at 44 ≡ n → ((i : ℕ) → length s ≤ i + k → entries k s i ≡ entries (suc k) s i)
        → entry n (entries k s) (last (number_at s at 10)) ≡ entry n (entries (suc k) s) (last (number_at s at 10))
    by (Some (v, i)) e rest = ap (ahead v) (rest i (omega (arith, (number_stood s at 44 v i e).place, length-append (decimal v) (44 ∷ []))))
    by None e rest = refl

pub entries_enough : (s : List ℕ) (at n : ℕ) → entries (n + length s) s at ≡ entries (length s) s at
entries_enough s at zero = ap (λ k. entries k s at) (omega arith)
entries_enough s at (suc n) =
    let same : suc n + length s ≡ suc (n + length s) = omega arith in
    rw same (sym (entries_more s (n + length s) at (omega arith)) ∙ entries_enough s at n)

pub data Follows (s : List ℕ) (l : Line) (text : List ℕ) (r : Line) : Type 0 where
  again : good l ≡ false → r ≡ l → Follows s l text r
  faulty : (f : Fault) → good l ≡ true → r ≡ Err f → fault.line_of f ≡ line_at s (next_at l) → Follows s l text r
  stands : good l ≡ true → good r ≡ true → Stood s (next_at l) text (next_at r) → Follows s l text r

pub follows_good : {s : List ℕ} {l : Line} {text : List ℕ} {r : Line} → Follows s l text r → good r ≡ true
    → (good l ≡ true) × Stood s (next_at l) text (next_at r)
follows_good (again h e) g = absurd (false≢true (sym h ∙ ap good (sym e) ∙ g))
follows_good (faulty f h e n) g = absurd (false≢true (ap good (sym e) ∙ g))
follows_good (stands h k p) g = (h, p)

abbrev pub number_line : List ℕ → Line → List ℕ → (ℕ → Bool) → Line
number_line s l key fit =
    behind l (λ at. let a = first_number s (key_at s at key) 10 in closed s at a (fit (value_of a)) (pair (value_of a) 0))

-- behind a line without a fault: by the key that is found, and by the number
module _ (s : List ℕ) (key : List ℕ) (xs : Numbers) (c : Cursor) where
  abbrev Numbered : Line → Type 0
  Numbered r = Follows s (Ok (xs, c)) (key_line key (decimal (first_of r))) r

  by_number : (fit : ℕ → Bool) (at : ℕ) → Stood s c.at key at → (a : Number) → number_at s at 10 ≡ a
      → Numbered (closed s c.at a (fit (value_of a)) (pair (value_of a) 0))
  unfolding key_line
  by_number fit at k None e = faulty _ refl refl refl
  by_number fit at k (Some (v, i)) e = by (fit v)
    where
      by : (t : Bool) → Numbered (closed s c.at (Some (v, i)) t (pair v 0))
      by true = stands refl refl (stood_join k (number_stood s at 10 v i e))
      by false = faulty _ refl refl refl

  by_key : (fit : ℕ → Bool) (k : Option ℕ) → key_at s c.at key ≡ k
      → Numbered (let a = first_number s k 10 in closed s c.at a (fit (value_of a)) (pair (value_of a) 0))
  by_key fit None e = faulty _ refl refl refl
  by_key fit (Some at) e = by_number fit at (key_stood s c.at key at e) (number_at s at 10) refl

module _ (s : List ℕ) (key : List ℕ) where
  pub number_follows : (l : Line) (fit : ℕ → Bool)
      → Follows s l (key_line key (decimal (first_of (number_line s l key fit)))) (number_line s l key fit)
  number_follows (Err f) fit = again refl refl
  number_follows (Ok (xs, c)) fit = by_key s key xs c fit (key_at s c.at key) refl

  pub one_follows : (l : Line) (low bound : ℕ)
      → Follows s l (key_line key (decimal (first_of (line_of_one s l key low bound)))) (line_of_one s l key low bound)
  unfolding line_of_one
  one_follows l low bound = number_follows l (λ x. within x low bound)

pub record ListFollows (s : List ℕ) (l : Line) (key : List ℕ) (bound : ℕ) (r : ListLine) : Type 0 where
  pub follows : Follows s l (key_line key (joined (places_of s r.list))) r.line
  pub whole : good r.line ≡ true → length (places_of s r.list) ≡ r.list.count
  pub fits : good r.line ≡ true → under bound (places_of s r.list) ≡ true

module _ (s : List ℕ) (key : List ℕ) (bound : ℕ) where
  -- a line with a fault says nothing of a list
  listless : (l : Line) (r : ListLine) → good r.line ≡ false → Follows s l (key_line key (joined (places_of s r.list))) r.line
      → ListFollows s l key bound r
  listless l r h f = record { follows = f; whole = λ g. absurd (false≢true (sym h ∙ g)); fits = λ g. absurd (false≢true (sym h ∙ g)) }

  -- behind a line without a fault: by the key that is found, and by the list
  module _ (xs : Numbers) (c : Cursor) where
    by_items : (at : ℕ) → Stood s c.at key at → (i : Items) → items_at s at ≡ i
        → ListFollows s (Ok (xs, c)) key bound (judged_list s c.at at i bound)
    unfolding key_line
    by_items at k bad e = listless _ _ refl (faulty _ refl refl refl)
    by_items at k (items vs i) e = by (under bound vs) refl
      where
        by : (t : Bool) → under bound vs ≡ t → ListFollows s (Ok (xs, c)) key bound (judged_list s c.at at (items vs i) bound)
        by true u = record {
          follows = stands refl (rw u) (rw (e, u) (stood_join k (items_stood s at vs i e)));
          whole = λ g. rw e;
          fits = λ g. rw e u;
        }
        by false u = listless _ _ (rw u) (faulty (Range (line_at s c.at)) refl (rw u) refl)

    by_list_key : (k : Option ℕ) → key_at s c.at key ≡ k → ListFollows s (Ok (xs, c)) key bound (list_behind s c.at k bound)
    by_list_key None e = listless _ _ refl (faulty _ refl refl refl)
    by_list_key (Some at) e = by_items at (key_stood s c.at key at e) (items_at s at) refl

  pub list_follows : (l : Line) → ListFollows s l key bound (list_line s l key bound)
  unfolding list_line
  list_follows (Err f) = listless _ _ refl (again refl refl)
  list_follows (Ok (xs, c)) = by_list_key xs c (key_at s c.at key) refl

pub finish_good : (s : List ℕ) (l : Line) → good (finish s l) ≡ true → (good l ≡ true) × (length s ≤ next_at l)
unfolding finish
finish_good s (Err f) g = absurd (false≢true g)
finish_good s (Ok (xs, c)) g = by (ltb c.at (length s)) refl g
  where
    by : (t : Bool) → ltb c.at (length s) ≡ t → good (cond t (Err (bad_form s c.at)) (Ok (xs, c))) ≡ true
        → ◌≡◌ {A = Bool} true true × (length s ≤ c.at)
    by true h e = absurd (false≢true e)
    by false h e = (refl, ltb-false c.at (length s) h)

pub newlines_append : (s t : List ℕ) → newlines (s ++ t) ≡ newlines s + newlines t
unfolding newlines
newlines_append [] t = omega arith
newlines_append (b ∷ s) t = omega (arith, newlines_append s t)

glyph_newlines : (d : ℕ) → newlines ((48 + d) ∷ []) ≡ 0
unfolding newlines
glyph_newlines d = rw (ne_eqb (48 + d) 10 (λ e. omega arith))

pub newlines_decimal : (n : ℕ) → newlines (decimal n) ≡ 0
newlines_decimal =
    decimal_each (λ n. newlines (decimal n) ≡ 0) (λ n h. rw (decimal_small n h) (glyph_newlines n))
    (λ n h tenth. rw (decimal_more n h, newlines_append, tenth, glyph_newlines (n % 10)))

commaed_newlines : (vs : List ℕ) → newlines (commaed vs) ≡ 0
unfolding newlines commaed
commaed_newlines [] = refl
commaed_newlines (v ∷ vs) = rw (newlines_append, newlines_decimal, commaed_newlines vs)

pub newlines_joined : (vs : List ℕ) → newlines (joined vs) ≡ 0
unfolding newlines joined
newlines_joined [] = refl
newlines_joined (v ∷ vs) = rw (newlines_append, newlines_decimal, commaed_newlines vs)

pub newlines_line : (key value : List ℕ) → newlines key ≡ 0 → newlines value ≡ 0 → newlines (key_line key value) ≡ 1
unfolding newlines key_line
newlines_line key value h k = rw (newlines_append, newlines_append, h, k)

stood_newlines : {s : List ℕ} {at : ℕ} {text : List ℕ} {next : ℕ} → Stood s at text next
    → newlines (take next s) ≡ newlines (take at s) + newlines text
stood_newlines {s} {at} {text} {next} p =
    ap (λ n. newlines (take n s)) p.place ∙ rw (take-add at (length text) s, newlines_append, p.bytes, take-append_seam)

abbrev pub fault_line : Line → ℕ
fault_line (Ok (xs, c)) = 0
fault_line (Err f) = fault.line_of f

pub record Begun (s : List ℕ) (k : ℕ) (l : Line) : Type 0 where
  pub passed : good l ≡ true → newlines (take (next_at l) s) ≡ k
  pub low : fault_line l ≤ k

good_line : (l : Line) → good l ≡ true → fault_line l ≡ 0
good_line (Ok (xs, c)) g = refl
good_line (Err f) g = absurd (false≢true g)

pub begun_top : (s : List ℕ) → Begun s 0 top
unfolding newlines
begun_top s = record { passed = λ g. refl; low = omega arith }

pub begun_next : {s : List ℕ} {k : ℕ} {l : Line} {text : List ℕ} {r : Line}
    → Begun s k l → Follows s l text r → newlines text ≡ 1 → Begun s (k + 1) r
unfolding line_at
begun_next b (again h e) n = rw e (record { passed = λ g. absurd (false≢true (sym h ∙ g)); low = omega (arith, b.low) })
begun_next b (faulty f h e m) n = rw e (record { passed = λ g. absurd (false≢true g); low = omega (arith, b.passed h, m) })
begun_next {r = r} b (stands h g p) n =
    record { passed = λ k. omega (arith, stood_newlines p, b.passed h); low = omega (arith, good_line r g) }

pub begun_finish : {s : List ℕ} {k : ℕ} {l : Line} → Begun s k l → fault_line (finish s l) ≤ k + 1
unfolding finish line_at
begun_finish {l = Err f} b = omega (arith, b.low)
begun_finish {s} {k} {l = Ok (xs, c)} b = by (ltb c.at (length s))
  where
    by : (t : Bool) → fault_line (cond t (Err (bad_form s c.at)) (Ok (xs, c))) ≤ k + 1
    by true = omega (arith, b.passed refl)
    by false = omega arith
