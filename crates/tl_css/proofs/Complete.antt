-- What stands by the grammar is read, where there is no limit of depth.
use Rattle.std.proofs.Common.{◌≡◌, ℕ, List, [], ◌∷◌, length, Bool, true, false, nat_lt, Ok, refl, ap, sym, subst, ◌∙◌, arith}
use Rattle.tl_spec.proofs.Lex.Grammar.{if_yes, if_no}
use Rattle.tl_css.specs.declared.text.role.Role.{Role}
use Rattle.tl_css.specs.declared.text.role.Role.TheVariants.{Top, Is as IsRole, Not as NotRole, Has, NthOf}
use Rattle.tl_css.specs.declared.text.role.Combinator.{Combinator}
use Rattle.tl_css.specs.declared.text.role.Combinator.TheVariants.{Descendant}
use Rattle.tl_css.specs.declared.text.role.Before.{Before}
use Rattle.tl_css.specs.declared.text.role.Before.TheVariants.{Touching, After, Begin}
use Rattle.tl_css.specs.declared.selector.Way.TheVariants.{From, To}
use Rattle.tl_css.specs.Selector.{Css, Both, At}
use Rattle.tl_css.specs.Program.{change, last_waiting}
use Rattle.tl_css.specs.PseudoClass.{Simple, Whole, Opens}
use Rattle.tl_css.specs.Item.{End, Comma, Part, is_relative, is_top}
use Rattle.tl_css.specs.Reading.{State, Open, Goes, Done, start, link_of, reach_of, with_simple, with_before, combine, lead as leads, meet_if, unite_if, seen, relate, apply_role, close, item_at}
use Rattle.tl_css.specs.Grammar.{role_of, Sort, Compound, Tail, Complex, Complexes, Stands, whole, list, compound_first, compound_next, tail_last, tail_next, complex_first, complex_next, complex_joined, relative_complex, list_first, list_next, IsSelector}
use Rattle.tl_css.specs.SimpleGrammar.{GapStands}
use Rattle.tl_css.proofs.Leaf.{SimpleReads}
use Rattle.tl_css.specs.Grammar.{Part as PartSort}
use Rattle.tl_css.proofs.Freely.{Reaches, goes, done, run_once, at, put}
use Rattle.tl_css.proofs.Standing.{touching, joined, begun_plain, begun_relative, comma, closed, ended}
use Rattle.tl_css.proofs.Roles.{never_top}
use Rattle.tl_css.proofs.Simples.{simple_read, list_read}

-- each simple selector there is read as an item with this before it
IsItem : State → List ℕ → Before → Bool → List ℕ → Type 0
IsItem st s0 before first s = (x : Simple) (k : List ℕ) → SimpleReads first s x k → item_at st.open_ s0 ≡ Ok (Part before (length s) x, k)

-- What has been read of a list and of a selector in it, from the state of the list on

PartIs : Bool → List ℕ → Css → List ℕ → Type 0
PartIs first s e rest = (st : State) (s0 : List ℕ) (before : Before) (x : Css) → IsItem st s0 before first s
    → Reaches (put e (with_before before st)) rest x → Reaches st s0 x

CompoundIs : List ℕ → Css → List ℕ → Type 0
CompoundIs s e rest = (st : State) (s0 : List ℕ) (before : Before) (role : Role) (left : ℕ) (listed : Bool) (cs : List Combinator)
    (ws : List Css) (outer : List Open) (x : Css) → with_before before st ≡ at role left listed false cs ws outer → IsItem st s0 before true s
    → Reaches (at role left listed true cs (e ∷ ws) outer) rest x → Reaches st s0 x

TailIs : List ℕ → Css → List ℕ → Type 0
TailIs s e rest = (st : State) (s0 : List ℕ) (before : Before) (role : Role) (left : ℕ) (listed : Bool) (c : Combinator) (cs : List Combinator)
    (ws : List Css) (outer : List Open) (x : Css) → is_relative role ≡ true
    → with_before before st ≡ at role left listed false (c ∷ cs) ws outer → IsItem st s0 before true s
    → ((ds : List Combinator) (vs : List Css) → relate ds vs ≡ relate (c ∷ cs) (e ∷ ws) → Reaches (at role left listed true ds vs outer) rest x)
    → Reaches st s0 x

PlainIs : List ℕ → Css → List ℕ → Type 0
PlainIs s e rest = (role : Role) (left : ℕ) (listed : Bool) (ws : List Css) (outer : List Open) (x : Css) → is_relative role ≡ false
    → Reaches (at role left listed true [] (e ∷ ws) outer) rest x → Reaches (at role left listed false [] ws outer) s x

ComplexIs : Bool → List ℕ → Css → List ℕ → Type 0
ComplexIs r s e rest = (role : Role) (left : ℕ) (listed : Bool) (ws : List Css) (outer : List Open) (x : Css) → is_relative role ≡ r
    → ((ds : List Combinator) (vs : List Css) → relate ds vs ≡ e ∷ ws → Reaches (at role left listed true ds vs outer) rest x)
    → Reaches (at role left listed false [] ws outer) s x

ListIs : Bool → List ℕ → Css → List ℕ → Type 0
ListIs r s e rest = (role : Role) (left : ℕ) (ws : List Css) (outer : List Open) (x : Css) → is_relative role ≡ r
    → ((listed : Bool) (ds : List Combinator) (vs : List Css) → unite_if listed (relate ds vs) ≡ e ∷ ws
    → Reaches (at role left listed true ds vs outer) rest x)
    → Reaches (at role left false false [] ws outer) s x

abbrev SortIs : Sort → List ℕ → Css → List ℕ → Type 0
SortIs (PartSort first) s e rest = PartIs first s e rest
SortIs Compound s e rest = CompoundIs s e rest
SortIs Tail s e rest = TailIs s e rest
SortIs (Complex true) s e rest = ComplexIs true s e rest
SortIs (Complex false) s e rest = PlainIs s e rest
SortIs (Complexes r) s e rest = ListIs r s e rest

complex_is : (r : Bool) (s : List ℕ) (e : Css) (rest : List ℕ) → SortIs (Complex r) s e rest → ComplexIs r s e rest
unfolding ComplexIs PlainIs
complex_is true s e rest h = h
complex_is false s e rest h = λ role left listed ws outer x plain more. h role left listed ws outer x plain (more [] (e ∷ ws) refl)

-- a state may be written otherwise
moved : (a b : State) (f : State → State) (s : List ℕ) (x : Css) → a ≡ b → Reaches (f b) s x → Reaches (f a) s x
moved a b f s x e h = subst (λ (st : State). Reaches (f st) s x) (sym e) h

pub combine_plain : (c : Combinator) (role : Role) (left : ℕ) (listed begun : Bool) (cs : List Combinator) (ws : List Css) (outer : List Open)
    → is_relative role ≡ false
    → combine c (at role left listed begun cs ws outer) ≡ at role left listed begun cs (change (At From (link_of c) (reach_of c)) ws) outer
combine_plain c role left listed begun cs ws outer plain = if_no _ _ _ plain

pub lead_plain : (c : Combinator) (role : Role) (left : ℕ) (listed begun : Bool) (cs : List Combinator) (ws : List Css) (outer : List Open)
    → is_relative role ≡ false → leads c (at role left listed begun cs ws outer) ≡ at role left listed begun cs ws outer
lead_plain c role left listed begun cs ws outer plain = if_no _ _ _ plain

pub combine_relative : (c : Combinator) (role : Role) (left : ℕ) (listed begun : Bool) (cs : List Combinator) (ws : List Css) (outer : List Open)
    → is_relative role ≡ true → combine c (at role left listed begun cs ws outer) ≡ at role left listed false (c ∷ cs) ws outer
combine_relative c role left listed begun cs ws outer relative = if_yes _ _ _ relative

pub lead_relative : (c : Combinator) (role : Role) (left : ℕ) (listed begun : Bool) (cs : List Combinator) (ws : List Css) (outer : List Open)
    → is_relative role ≡ true → leads c (at role left listed begun cs ws outer) ≡ at role left listed false (c ∷ cs) ws outer
lead_relative c role left listed begun cs ws outer relative = if_yes _ _ _ relative ∙ combine_relative c role left listed begun cs ws outer relative

pub apply_is : (role : Role) (e : Css) (ws : List Css) → apply_role role (e ∷ ws) ≡ role_of role e ∷ ws
apply_is Top e ws = refl
apply_is IsRole e ws = refl
apply_is NotRole e ws = refl
apply_is Has e ws = refl
apply_is (NthOf way formula) e ws = refl

pub seen_more : (c d : Combinator) (cs : List Combinator) (a b : Css) (ws : List Css)
    → relate (c ∷ d ∷ cs) (b ∷ a ∷ ws) ≡ relate (d ∷ cs) (Both a (At To (link_of c) (reach_of c) b) ∷ ws)
seen_more c d cs a b ws =
    let more : nat_lt 0 (length (d ∷ cs)) ≡ true = grind arith in
    ap (λ (v : Bool). relate (d ∷ cs) (seen c v (b ∷ a ∷ ws))) more

-- a list in brackets is put into what stands around it
list_closed : (st : State) (role : Role) (left : ℕ) (k rest : List ℕ) (w : Bool) (e x : Css) → is_top role ≡ false
    → GapStands k w (41 ∷ rest) → Reaches (put (role_of role e) st) rest x
    → (listed : Bool) (ds : List Combinator) (vs : List Css) → unite_if listed (relate ds vs) ≡ e ∷ st.waiting
    → Reaches (at role left listed true ds vs (st.open_ ∷ st.outer)) k x
list_closed st role left k rest w e x inner gap more listed ds vs is =
    goes (at role left listed true ds vs (st.open_ ∷ st.outer)) k End rest (put (role_of role e) st) x (closed role left k rest w inner gap)
    (ap (λ (es : List Css). close (record { waiting = es; open_ = record { role = role; left = left; listed = true; begun = false; combinators = [] }; outer = st.open_ ∷ st.outer }) (st.open_ ∷ st.outer)) is
    ∙ ap (λ (es : List Css). Goes (record { waiting = meet_if st.open_.begun es; open_ = record st.open_ { begun = true }; outer = st.outer })) (apply_is role e st.waiting))
    more

complete : {sort : Sort} {s rest : List ℕ} {e : Css} → Stands sort s e rest → SortIs sort s e rest
unfolding PartIs CompoundIs TailIs PlainIs ComplexIs ListIs IsItem
complete (whole {first = first} {s = s} {rest = rest} {e = e} own) = λ st s0 before x item more.
    goes st s0 _ rest (put e (with_before before st)) x (item (Whole e) rest (simple_read first s e rest own)) refl more
complete (list {first = first} {w = w} {s = s} {m = m} {k = k} {rest = rest} {role = role} {e = e} own inside gap) = λ st s0 before x item more.
    let st1 = with_before before st in
    let read = list_read first s role m own in
    goes st s0 _ m (with_simple (Opens role read.0) st1) x (item (Opens role read.0) m read.1) refl
    (complete inside role read.0 st1.waiting (st1.open_ ∷ st1.outer) x refl
    (list_closed st1 role read.0 k rest w e x (never_top first (58 ∷ s) role read.0 m read.1) gap more))
complete (compound_first {rest = rest} {e = e} own) = λ st s0 before role left listed cs ws outer x is item more.
    complete own st s0 before x item (moved _ _ (put e) rest x is more)
complete (compound_next {m = m} {n = n} {rest = rest} {a = a} {b = b} front gap own) = λ st s0 before role left listed cs ws outer x is item more.
    complete front st s0 before role left listed cs ws outer x is item
    (complete own (at role left listed true cs (a ∷ ws) outer) m Touching x (λ y k own. touching role left m n k y gap own) more)
complete (tail_last {e = e} own) = λ st s0 before role left listed c cs ws outer x relative is item more.
    complete own st s0 before role left listed (c ∷ cs) ws outer x is item (more (c ∷ cs) (e ∷ ws) refl)
complete (tail_next {m = m} {n = n} {rest = rest} {a = a} {b = b} {c = d} front mark own) = λ st s0 before role left listed c cs ws outer x relative is item more.
    complete front st s0 before role left listed (c ∷ cs) ws outer x is item
    (complete own (at role left listed true (c ∷ cs) (a ∷ ws) outer) m (After d) role left listed d (c ∷ cs) (a ∷ ws) outer x relative
    (combine_relative d role left listed true (c ∷ cs) (a ∷ ws) outer relative)
    (λ y k own. joined role left m n k d y mark own)
    (λ ds vs same. more ds vs (same ∙ seen_more d c cs a b ws)))
complete (complex_first {s = s} {m = m} {rest = rest} {e = e} {w = w} gap own) = λ role left listed ws outer x plain more.
    complete own (at role left listed false [] ws outer) s (Begin Descendant) x (λ y k own. begun_plain role s m k w y plain gap own)
    (moved _ _ (put e) rest x (lead_plain Descendant role left listed false [] ws outer plain) more)
complete (complex_next {m = m} {n = n} {a = a} {b = b} front gap own) = λ role left listed ws outer x plain more.
    complete front role left listed ws outer x plain
    (complete own (at role left listed true [] (a ∷ ws) outer) m Touching x (λ y k own. touching role left m n k y gap own) more)
complete (complex_joined {m = m} {n = n} {rest = rest} {a = a} {b = b} {c = c} front mark own) = λ role left listed ws outer x plain more.
    complete front role left listed ws outer x plain
    (complete own (at role left listed true [] (a ∷ ws) outer) m (After c) x (λ y k own. joined role left m n k c y mark own)
    (moved _ _ (put b) rest x (combine_plain c role left listed true [] (a ∷ ws) outer plain) more))
complete (relative_complex {s = s} {m = m} {e = e} {c = c} mark own) = λ role left listed ws outer x relative more.
    complete own (at role left listed false [] ws outer) s (Begin c) role left listed c [] ws outer x relative
    (lead_relative c role left listed false [] ws outer relative)
    (λ y k own. begun_relative role s m k c y relative mark own) more
complete (list_first {r = r} {s = s} {rest = rest} {e = e} own) = λ role left ws outer x is more.
    complex_is r s e rest (complete own) role left false ws outer x is (λ ds vs same. more false ds vs same)
complete (list_next {r = r} {w = w} {s = s} {k = k} {m = m} {rest = rest} {a = a} {b = b} front gap own) = λ role left ws outer x is more.
    complete front role left ws outer x is
    (λ listed ds vs same. goes (at role left listed true ds vs outer) k Comma m (at role left true false [] (a ∷ ws) outer) x (comma role left k m w gap)
    (ap (λ (es : List Css). Goes (at role left true false [] es outer)) same)
    (complex_is r m b rest (complete own) role left true (a ∷ ws) outer x is
    (λ ds vs same. more true ds vs (ap (λ (es : List Css). unite_if true es) same))))

pub selector_is : (text : List ℕ) (e : Css) → IsSelector text e → Reaches start text e
unfolding ListIs
selector_is text e is = complete is.list Top 0 [] [] e refl
    (λ listed ds vs same. done (at Top 0 listed true ds vs []) is.rest End [] e (ended 0 Top is.rest is.white refl is.end)
    (ap (λ (es : List Css). Done (last_waiting es)) same))

pub one_at_most : (text : List ℕ) (a b : Css) → IsSelector text a → IsSelector text b → a ≡ b
one_at_most text a b p q =
    let first = selector_is text a p in
    let second = selector_is text b q in
    run_once first.steps second.steps start text a b first.ends second.ends
