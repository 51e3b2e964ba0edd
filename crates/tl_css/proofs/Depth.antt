-- The reader's limits: the depth, which is an error, and how many items, which is none.
use Rattle.std.proofs.Common.{◌≡◌, ℕ, zero, suc, ◌<◌, ◌≤◌, ◌+◌, ◌-◌, List, [], ◌∷◌, length, Bool, true, false, nat_lt, Result, Ok, Err, refl, ap, sym, subst, ◌∙◌, arith, inl, inr}
use Rattle.std.specs.Prelude.{◌⊎◌, if◌then◌else◌}
use Rattle.std.specs.Str.{byte}
use Rattle.tl_spec.proofs.Lex.Shrinks.{if_both}
use Rattle.tl_css.specs.declared.error.Wrong.{Wrong}
use Rattle.tl_css.specs.declared.error.Cause.TheVariants.{TooDeep}
use Rattle.tl_css.specs.declared.text.role.Role.{Role}
use Rattle.tl_css.specs.declared.text.role.Combinator.{Combinator}
use Rattle.tl_css.specs.declared.text.role.Combinator.TheVariants.{Descendant}
use Rattle.tl_css.specs.declared.text.role.Before.{Before}
use Rattle.tl_css.specs.declared.text.role.Before.TheVariants.{Touching, After, Begin}
use Rattle.tl_css.specs.Selector.{Css}
use Rattle.tl_css.specs.Read.{Read, wrong_at, ◌>>=◌}
use Rattle.tl_css.specs.PseudoClass.{Simple, Whole, Opens}
use Rattle.tl_css.specs.Item.{Item, End, Comma, Part, is_relative, is_top, begin_at, next_at}
use Rattle.tl_css.specs.Reading.{State, Open, Taken, Goes, Done, start, with_simple, with_before, combine, most_waiting, finish, close, taken, go_on, item_at, read_within, read, css_at, placed}
use Rattle.tl_css.specs.Grammar.{CombinatorStands, marked, spaced, LeadStands, lead, no_lead, IsSelector}
use Rattle.tl_css.proofs.Leaf.{SimpleReads}
use Rattle.tl_css.proofs.Freely.{run, freely}
use Rattle.tl_css.proofs.Roles.{never_top}
use Rattle.tl_css.proofs.Complete.{selector_is}
use Rattle.tl_css.proofs.ItemsRead.{Reads, NextItem, touch, join, comma_item, close_item, end_item, FirstItem, plain_item, relative_item, next_reads, first_reads}
use Rattle.tl_css.proofs.Shorter.{simple_lt, gap_stands_le}
use Rattle.tl_css.proofs.Sound.{bind_ok, not_both, run_is}

-- it is this selector, or too deep somewhere
abbrev pub IsReadOrDeep : Result Css Wrong → Css → Type 0
IsReadOrDeep r e = (r ≡ Ok e) ⊎ ((left : ℕ) × (r ≡ wrong_at left TooDeep))

-- an item is taken as without the limit, or it is too deep
abbrev IsTaken : Item → State → Type 0
IsTaken item st = (taken item st ≡ Ok (freely item st)) ⊎ ((left : ℕ) × (taken item st ≡ wrong_at left TooDeep))

part_taken : (b : Bool) (left : ℕ) (t : Taken) (r : Result Taken Wrong) → r ≡ (if b then wrong_at left TooDeep else Ok t)
    → (r ≡ Ok t) ⊎ ((left : ℕ) × (r ≡ wrong_at left TooDeep))
part_taken true left t r h = inr (left, h)
part_taken false left t r h = inl h

is_taken : (item : Item) (st : State) → IsTaken item st
is_taken End st = inl refl
is_taken Comma st = inl refl
is_taken (Part before left simple) st = part_taken (nat_lt most_waiting (length st.waiting)) left _ _ refl

-- What is read under the limit is read without it.

taken_freely : (item : Item) (st : State) (t : Taken) → taken item st ≡ Ok t → freely item st ≡ t
taken_freely item st t h = elim (is_taken item st) as (λ _. freely item st ≡ t) [
  | inl same ↦ (cc)
  | inr deep ↦ (let wrong = deep.1 in absurd (cc))
]

go_freely : (n : ℕ) (rest : List ℕ) (e : Css) (t : Taken) → ((st : State) → read_within n st rest ≡ Ok e → run n st rest ≡ Ok e)
    → go_on (λ st. read_within n st rest) t ≡ Ok e → go_on (λ st. run n st rest) t ≡ Ok e
go_freely n rest e (Goes st) more h = more st h
go_freely n rest e (Done f) more h = h

run_item : (n : ℕ) (st : State) (r : Read Item) (p : Item × List ℕ) → r ≡ Ok p
    → (r >>= λ item. go_on (λ st. run n st item.1) (freely item.0 st)) ≡ go_on (λ st. run n st p.1) (freely p.0 st)
run_item n st r p is = ap (λ (r : Read Item). r >>= λ item. go_on (λ st. run n st item.1) (freely item.0 st)) is

abbrev reading : ℕ → State → Read Item → Result Css Wrong
reading n st r = r >>= λ item. taken item.0 st >>= λ taken. go_on (λ st. read_within n st item.1) taken

within_run : (n : ℕ) (st : State) (s : List ℕ) (e : Css) → read_within n st s ≡ Ok e → run n st s ≡ Ok e
within_run zero st s e h = absurd (cc)
within_run (suc n) st s e h =
    let one = bind_ok (item_at st.open_ s) (λ item. taken item.0 st >>= λ taken. go_on (λ st. read_within n st item.1) taken) e h in
    let p = one.0 in
    let two = bind_ok (taken p.0 st) (λ taken. go_on (λ st. read_within n st p.1) taken) e one.2 in
    run_item n st (item_at st.open_ s) p one.1
    ∙ (ap (λ (t : Taken). go_on (λ st. run n st p.1) t) (taken_freely p.0 st two.0 two.1)
    ∙ go_freely n p.1 e two.0 (λ next. within_run n next p.1 e) two.2)

-- Lists within the top

Nested : Role → List Open → Type 0
Nested role [] = Unit {0}
Nested role (o ∷ outer) = (is_top role ≡ false) × Nested o.role outer

abbrev IsNested : State → Type 0
IsNested st = Nested st.open_.role st.outer

combine_nested : (c : Combinator) (st : State) → IsNested st → IsNested (combine c st)
combine_nested c st h = if_both IsNested (is_relative st.open_.role) _ _ (λ _. h) (λ _. h)

before_nested : (before : Before) (st : State) → IsNested st → IsNested (with_before before st)
before_nested Touching st h = h
before_nested (After c) st h = combine_nested c st h
before_nested (Begin c) st h = if_both IsNested (is_relative st.open_.role) _ _ (λ _. combine_nested c st h) (λ _. h)

simple_nested : (first : Bool) (s : List ℕ) (x : Simple) (rest : List ℕ) (st : State) → SimpleReads first s x rest → IsNested st → IsNested (with_simple x st)
unfolding Nested
simple_nested first s (Whole e) rest st own h = h
simple_nested first s (Opens role left) rest st own h = (never_top first s role left rest own, h)

close_nested : (st : State) (o : Open) (outer : List Open) → Nested st.open_.role (o ∷ outer) → Nested o.role outer
unfolding Nested
close_nested st o outer h = h.1

-- What an item does that isn't the last one: it takes a byte, and lists stay within the top.

abbrev Progress : State → List ℕ → Item → List ℕ → Type 0
Progress st s item rest = (t : State) → freely item st ≡ Goes t → (length rest < length s) × IsNested t

goes_same : {a b : State} → Goes a ≡ Goes b → a ≡ b
goes_same h = cc

part_progress : (st : State) (s p rest : List ℕ) (before : Before) (left : ℕ) (first : Bool) (x : Simple) → IsNested st → length p ≤ length s
    → SimpleReads first p x rest → Progress st s (Part before left x) rest
part_progress st s p rest before left first x nested le own = λ t goes.
    let less = simple_lt first p x rest own in
    (omega arith, subst IsNested (goes_same goes) (simple_nested first p x rest (with_before before st) own (before_nested before st nested)))

closing : (st : State) (s rest : List ℕ) (outer : List Open) → Nested st.open_.role outer → length rest < length s
    → (t : State) → close (finish st) outer ≡ Goes t → (length rest < length s) × IsNested t
closing st s rest [] nested less = λ t goes. absurd (cc)
closing st s rest (o ∷ outer) nested less = λ t goes. (less, subst IsNested (goes_same goes) (close_nested st o outer nested))

ending : (st : State) (s rest : List ℕ) (outer : List Open) → Nested st.open_.role outer → is_top st.open_.role ≡ true
    → (t : State) → close (finish st) outer ≡ Goes t → (length rest < length s) × IsNested t
unfolding Nested
ending st s rest [] nested top = λ t goes. absurd (cc)
ending st s rest (o ∷ outer) nested top = λ t goes. absurd (not_both (is_top st.open_.role) top nested.0)

combinator_le : (s : List ℕ) (c : Combinator) (n : List ℕ) → CombinatorStands s c n → length n ≤ length s
combinator_le s c n (marked {m = m} {b = b} {v = v} {w = w} gap is after) =
    let one = gap_stands_le s v (b ∷ m) gap in let two = gap_stands_le m w n after in omega arith
combinator_le s c n (spaced gap) = gap_stands_le s true n gap

lead_le : (s : List ℕ) (c : Combinator) (n : List ℕ) → LeadStands s c n → length n ≤ length s
lead_le s c n (lead {m = m} {b = b} {v = v} {w = w} gap is after) =
    let one = gap_stands_le s v (b ∷ m) gap in let two = gap_stands_le m w n after in omega arith
lead_le s c n (no_lead {w = w} gap) = gap_stands_le s w n gap

next_progress : (st : State) (s : List ℕ) (item : Item) (rest : List ℕ) → IsNested st → NextItem st.open_.role s item rest → Progress st s item rest
next_progress st s item rest nested (touch {n = n} {x = x} gap own) =
    part_progress st s n rest Touching (length n) false x nested (gap_stands_le s false n gap) own
next_progress st s item rest nested (join {n = n} {c = c} {x = x} mark own) =
    part_progress st s n rest (After c) (length n) true x nested (combinator_le s c n mark) own
next_progress st s item rest nested (comma_item {w = w} gap) = λ t goes.
    let le = gap_stands_le s w (byte "," ∷ rest) gap in
    (omega arith, subst IsNested (goes_same goes) nested)
next_progress st s item rest nested (close_item {w = w} inner gap) =
    let le = gap_stands_le s w (byte ")" ∷ rest) gap in
    closing st s rest st.outer nested (omega arith)
next_progress st s item rest nested (end_item top gap) = ending st s [] st.outer nested top

first_progress : (st : State) (s : List ℕ) (item : Item) (rest : List ℕ) → IsNested st → FirstItem st.open_.role s item rest → Progress st s item rest
first_progress st s item rest nested (plain_item {n = n} {w = w} {x = x} is gap own) =
    part_progress st s n rest (Begin Descendant) (length n) true x nested (gap_stands_le s w n gap) own
first_progress st s item rest nested (relative_item {n = n} {c = c} {x = x} is mark own) =
    part_progress st s n rest (Begin c) (length n) true x nested (lead_le s c n mark) own

by_begun : (begun : Bool) (st : State) (s : List ℕ) (p : Item × List ℕ) → IsNested st
    → (if begun then next_at st.open_.role st.open_.left s else begin_at st.open_.role s) ≡ Ok p → Progress st s p.0 p.1
by_begun true st s p nested is =
    next_progress st s p.0 p.1 nested (subst (λ (r : Read Item). Reads (NextItem st.open_.role s) r) is (next_reads st.open_.role st.open_.left s))
by_begun false st s p nested is =
    first_progress st s p.0 p.1 nested (subst (λ (r : Read Item). Reads (FirstItem st.open_.role s) r) is (first_reads st.open_.role s))

-- What is read without the limit is read under it, or too deep.

go_deep : (m n : ℕ) (rest : List ℕ) (e : Css) (t : Taken)
    → ((st : State) → t ≡ Goes st → run n st rest ≡ Ok e → IsReadOrDeep (read_within m st rest) e)
    → go_on (λ st. run n st rest) t ≡ Ok e → IsReadOrDeep (go_on (λ st. read_within m st rest) t) e
go_deep m n rest e (Goes st) more h = more st refl h
go_deep m n rest e (Done f) more h = inl h

after_taken : (m : ℕ) (rest : List ℕ) (e : Css) (r : Result Taken Wrong) (t : Taken)
    → (r ≡ Ok t) ⊎ ((left : ℕ) × (r ≡ wrong_at left TooDeep)) → IsReadOrDeep (go_on (λ st. read_within m st rest) t) e
    → IsReadOrDeep (r >>= λ taken. go_on (λ st. read_within m st rest) taken) e
after_taken m rest e r t (inl same) h =
    subst (λ (r : Result Taken Wrong). IsReadOrDeep (r >>= λ taken. go_on (λ st. read_within m st rest) taken) e) (sym same) h
after_taken m rest e r t (inr deep) h =
    subst (λ (r : Result Taken Wrong). IsReadOrDeep (r >>= λ taken. go_on (λ st. read_within m st rest) taken) e) (sym deep.1) (inr (deep.0, refl))

run_within : (m n : ℕ) (st : State) (s : List ℕ) (e : Css) → IsNested st → length s < m → run n st s ≡ Ok e → IsReadOrDeep (read_within m st s) e
run_within zero n st s e nested less h = absurd (omega arith)
run_within (suc m) zero st s e nested less h = absurd (cc)
run_within (suc m) (suc n) st s e nested less h =
    let one = bind_ok (item_at st.open_ s) (λ item. go_on (λ st. run n st item.1) (freely item.0 st)) e h in
    let p = one.0 in
    subst (λ (r : Read Item). IsReadOrDeep (reading m st r) e) (sym one.1)
    (after_taken m p.1 e (taken p.0 st) (freely p.0 st) (is_taken p.0 st)
    (go_deep m n p.1 e (freely p.0 st)
    (λ next goes reaches.
    let more = by_begun st.open_.begun st s p nested one.1 next goes in
    let shorter = more.0 in
    run_within m n next p.1 e more.1 (omega arith) reaches)
    one.2))

-- The laws

placed_ok : (text : List ℕ) (e : Css) (r : Result Css Wrong) → placed text r ≡ Ok e → r ≡ Ok e
placed_ok text e (Ok f) h = cc
placed_ok text e (Err w) h = absurd (cc)

pub css_is : (text : List ℕ) (e : Css) → css_at text ≡ Ok e → IsSelector text e
unfolding read
css_is text e h = run_is text (length text + 1) e (within_run (length text + 1) start text e (placed_ok text e (read text) h))

placed_deep : (text : List ℕ) (e : Css) (r : Result Css Wrong) → IsReadOrDeep r e → (placed text r ≡ Ok e) ⊎ ((at : ℕ) × (placed text r ≡ Err (at, TooDeep)))
placed_deep text e r (inl same) = inl (ap (λ (r : Result Css Wrong). placed text r) same)
placed_deep text e r (inr deep) = inr (length text - deep.0, ap (λ (r : Result Css Wrong). placed text r) deep.1)

pub is_css : (text : List ℕ) (e : Css) → IsSelector text e → (css_at text ≡ Ok e) ⊎ ((at : ℕ) × (css_at text ≡ Err (at, TooDeep)))
unfolding read Nested
is_css text e is =
    let reaches = selector_is text e is in
    placed_deep text e (read text) (run_within (length text + 1) reaches.steps start text e tt (omega arith) reaches.ends)

pub read_is : (text : List ℕ) (e : Css) → read text ≡ Ok e → IsSelector text e
unfolding read
read_is text e h = run_is text (length text + 1) e (within_run (length text + 1) start text e h)

deep_cause : (r : Result Css Wrong) (e : Css) (wrong : Wrong) → r ≡ Err wrong → IsReadOrDeep r e → wrong.cause ≡ TooDeep
deep_cause r e wrong h (inl same) = absurd (cc)
deep_cause r e wrong h (inr deep) = let same : Err wrong ≡ wrong_at {A = Css} deep.0 TooDeep = sym h ∙ deep.1 in cc

-- what is wrong in a selector is its depth alone
pub wrong_is : (text : List ℕ) (e : Css) (wrong : Wrong) → read text ≡ Err wrong → IsSelector text e → wrong.cause ≡ TooDeep
unfolding read Nested
wrong_is text e wrong h is =
    let reaches = selector_is text e is in
    deep_cause (read text) e wrong h (run_within (length text + 1) reaches.steps start text e tt (omega arith) reaches.ends)
