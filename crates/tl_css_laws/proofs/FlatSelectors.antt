-- Selectors without lists in brackets: they stand by the grammar, and at most two wait while they
-- are read, so none is too deep.
use Rattle.std.proofs.Common.{◌≡◌, ◌<◌, ◌≤◌, ◌+◌, ℕ, zero, suc, Bool, true, false, nat_lt, List, [], ◌∷◌, length, Result, Ok, refl, ap, ◌∙◌, arith}
use Rattle.tl_spec.proofs.Lex.Grammar.{if_no}
use Rattle.tl_css.specs.declared.error.Wrong.{Wrong}
use Rattle.tl_css.specs.declared.selector.Way.TheVariants.{From}
use Rattle.tl_css.specs.declared.text.role.Combinator.{Combinator}
use Rattle.tl_css.specs.declared.text.role.Combinator.TheVariants.{Descendant}
use Rattle.tl_css.specs.declared.text.role.Before.{Before}
use Rattle.tl_css.specs.declared.text.role.Before.TheVariants.{Touching, After, Begin}
use Rattle.tl_css.specs.declared.text.role.Role.TheVariants.{Top}
use Rattle.tl_css.specs.Selector.{Css, Both, Either, At}
use Rattle.tl_css.specs.Program.{last_waiting}
use Rattle.tl_css.specs.PseudoClass.{Whole}
use Rattle.tl_css.specs.Item.{Item, End, Comma, Part}
use Rattle.tl_css.specs.Read.{Read, ◌>>=◌}
use Rattle.tl_css.specs.Reading.{State, Taken, Goes, Done, start, link_of, reach_of, unite_if, with_simple, with_before, most_waiting, taken, go_on, item_at, read_within, read, css_at, placed}
use Rattle.tl_css.specs.SimpleGrammar.{GapStands, SimpleStands}
use Rattle.tl_css.specs.Grammar.{CombinatorStands, marked, spaced, Stands, Complex, Complexes, whole, complex_first, complex_next, complex_joined, list_first, list_next}
use Rattle.tl_css.proofs.Freely.{at}
use Rattle.tl_css.proofs.Shorter.{simple_lt, gap_stands_le}
use Rattle.tl_css.proofs.Simples.{simple_read}
use Rattle.tl_css.proofs.Standing.{touching, joined, begun_plain, comma, ended}

-- a complex selector of simple selectors that have no list
pub data Flat : List ℕ → Css → List ℕ → Type 0 where
  flat_first : {s m rest : List ℕ} {e : Css} {w : Bool} → GapStands s w m → SimpleStands true m e rest → Flat s e rest
  flat_next : {s m n rest : List ℕ} {a b : Css} → Flat s a m → GapStands m false n → SimpleStands false n b rest → Flat s (Both a b) rest
  flat_joined : {s m n rest : List ℕ} {a b : Css} {c : Combinator} → Flat s a m → CombinatorStands m c n → SimpleStands true n b rest
      → Flat s (Both (At From (link_of c) (reach_of c) a) b) rest

-- such selectors, with commas between
pub data Flats : List ℕ → Css → List ℕ → Type 0 where
  flats_first : {s rest : List ℕ} {e : Css} → Flat s e rest → Flats s e rest
  flats_next : {s k m rest : List ℕ} {a b : Css} {w : Bool} → Flats s a k → GapStands k w (44 ∷ m) → Flat m b rest → Flats s (Either a b) rest

flat_stands : {s rest : List ℕ} {e : Css} → Flat s e rest → Stands (Complex false) s e rest
flat_stands (flat_first gap own) = complex_first gap (whole own)
flat_stands (flat_next front gap own) = complex_next (flat_stands front) gap (whole own)
flat_stands (flat_joined front mark own) = complex_joined (flat_stands front) mark (whole own)

pub flats_stand : {s rest : List ℕ} {e : Css} → Flats s e rest → Stands (Complexes false) s e rest
flats_stand (flats_first own) = list_first (flat_stands own)
flats_stand (flats_next front gap own) = list_next (flats_stand front) gap (flat_stands own)

-- Reading

-- the reader comes to this selector in as many items as there are bytes, and one more
ReadsTo : State → List ℕ → Css → Type 0
ReadsTo st s e = (m : ℕ) → length s < m → read_within m st s ≡ Ok e

abbrev after_item : ℕ → State → Read Item → Result Css Wrong
after_item m st r = r >>= λ item. taken item.0 st >>= λ taken. go_on (λ st. read_within m st item.1) taken

abbrev after_taken : ℕ → List ℕ → Result Taken Wrong → Result Css Wrong
after_taken m rest r = r >>= λ taken. go_on (λ st. read_within m st rest) taken

goes_to : (st : State) (s : List ℕ) (item : Item) (rest : List ℕ) (next : State) (e : Css) → item_at st.open_ s ≡ Ok (item, rest)
    → taken item st ≡ Ok (Goes next) → length rest < length s → ReadsTo next rest e → ReadsTo st s e
unfolding ReadsTo
goes_to st s item rest next e is to less more = elim [
  | zero ↦ λ enough. absurd (omega arith)
  | suc m ↦ λ enough. ap (after_item m st) is ∙ (ap (after_taken m rest) to ∙ more m (omega arith))
]

done_to : (st : State) (s : List ℕ) (item : Item) (rest : List ℕ) (e : Css) → item_at st.open_ s ≡ Ok (item, rest) → taken item st ≡ Ok (Done e) → ReadsTo st s e
unfolding ReadsTo
done_to st s item rest e is to = elim [
  | zero ↦ λ enough. absurd (omega arith)
  | suc m ↦ λ enough. ap (after_item m st) is ∙ ap (after_taken m rest) to
]

part_taken : (before : Before) (left : ℕ) (e : Css) (st : State) → length st.waiting ≤ 2
    → taken (Part before left (Whole e)) st ≡ Ok (Goes (with_simple (Whole e) (with_before before st)))
part_taken before left e st few =
    let shallow : nat_lt most_waiting (length st.waiting) ≡ false = grind arith in
    if_no _ _ _ shallow

-- a simple selector that stands after a gap is shorter than both
part_lt : (first : Bool) (s n rest : List ℕ) (e : Css) → length n ≤ length s → SimpleStands first n e rest → length rest < length s
part_lt first s n rest e le own = let less = simple_lt first n (Whole e) rest (simple_read first n e rest own) in omega arith

combinator_le : (s : List ℕ) (c : Combinator) (n : List ℕ) → CombinatorStands s c n → length n ≤ length s
combinator_le s c n (marked {m = m} {b = b} {v = v} {w = w} gap is after) =
    let one = gap_stands_le s v (b ∷ m) gap in let two = gap_stands_le m w n after in omega arith
combinator_le s c n (spaced gap) = gap_stands_le s true n gap

flat_reads : {s rest : List ℕ} {e : Css} → Flat s e rest → (listed : Bool) (ws : List Css) (x : Css) → length ws ≤ 1
    → ReadsTo (at Top 0 listed true [] (e ∷ ws) []) rest x → ReadsTo (at Top 0 listed false [] ws []) s x
flat_reads (flat_first {s = s} {m = m} {rest = rest} {e = e} {w = w} gap own) listed ws x few more =
    let st = at Top 0 listed false [] ws [] in
    goes_to st s (Part (Begin Descendant) (length m) (Whole e)) rest (at Top 0 listed true [] (e ∷ ws) []) x
    (begun_plain Top s m rest w (Whole e) refl gap (simple_read true m e rest own)) (part_taken (Begin Descendant) (length m) e st (omega arith))
    (part_lt true s m rest e (gap_stands_le s w m gap) own) more
flat_reads (flat_next {m = m} {n = n} {rest = rest} {a = a} {b = b} front gap own) listed ws x few more =
    let st = at Top 0 listed true [] (a ∷ ws) [] in
    flat_reads front listed ws x few
    (goes_to st m (Part Touching (length n) (Whole b)) rest (at Top 0 listed true [] (Both a b ∷ ws) []) x
    (touching Top 0 m n rest (Whole b) gap (simple_read false n b rest own)) (part_taken Touching (length n) b st (omega arith))
    (part_lt false m n rest b (gap_stands_le m false n gap) own) more)
flat_reads (flat_joined {m = m} {n = n} {rest = rest} {a = a} {b = b} {c = c} front mark own) listed ws x few more =
    let st = at Top 0 listed true [] (a ∷ ws) [] in
    flat_reads front listed ws x few
    (goes_to st m (Part (After c) (length n) (Whole b)) rest (at Top 0 listed true [] (Both (At From (link_of c) (reach_of c) a) b ∷ ws) []) x
    (joined Top 0 m n rest c (Whole b) mark (simple_read true n b rest own)) (part_taken (After c) (length n) b st (omega arith))
    (part_lt true m n rest b (combinator_le m c n mark) own) more)

flats_read : {s rest : List ℕ} {e : Css} → Flats s e rest → (x : Css)
    → ((listed : Bool) (vs : List Css) → unite_if listed vs ≡ e ∷ [] → ReadsTo (at Top 0 listed true [] vs []) rest x)
    → ReadsTo start s x
flats_read (flats_first {e = e} own) x more = flat_reads own false [] x (omega arith) (more false (e ∷ []) refl)
flats_read (flats_next {k = k} {m = m} {a = a} {b = b} {w = w} front gap own) x more =
    let shorter = gap_stands_le k w (44 ∷ m) gap in
    flats_read front x
    (λ listed vs same. goes_to (at Top 0 listed true [] vs []) k Comma m (at Top 0 true false [] (a ∷ []) []) x (comma Top 0 k m w gap)
    (ap (λ (es : List Css). Ok (Goes (at Top 0 true false [] es []))) same) (omega arith)
    (flat_reads own true (a ∷ []) x (omega arith) (more true (b ∷ a ∷ []) refl)))

pub flats_are_read : (text rest : List ℕ) (e : Css) (w : Bool) → Flats text e rest → GapStands rest w [] → css_at text ≡ Ok e
unfolding ReadsTo read
flats_are_read text rest e w own gap =
    let reads : ReadsTo start text e = flats_read own e
    (λ listed vs same. done_to (at Top 0 listed true [] vs []) rest End [] e (ended 0 Top rest w refl gap)
    (ap (λ (es : List Css). Ok (Done (last_waiting es))) same)) in
    ap (placed text) (reads (length text + 1) (omega arith))
