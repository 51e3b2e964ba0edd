-- How a text is read item by item.
use Rattle.std.proofs.Common.{◌≡◌, Bool, false, ℕ, ◌+◌, List, length, Result, Ok, Err, refl, ap, sym, ◌∙◌, add-one, subst}
use Rattle.tl_css.specs.declared.error.Wrong.{Wrong}
use Rattle.tl_css.specs.declared.error.Failure.{Failure}
use Rattle.tl_css.specs.declared.error.Failure.TheVariants as f
use Rattle.tl_css.specs.Selector.{Css}
use Rattle.tl_css.specs.Read.{Read, ◌>>=◌}
use Rattle.tl_css.specs.declared.text.role.Role.TheVariants.{Top}
use Rattle.tl_css.specs.Item.{Item, begin_at}
use Rattle.tl_css.specs.Reading.{State, Open, opened, Taken, Goes, Done, taken, go_on, read, start, within_by}
use Rattle.tl_css.specs.Relative.{item_by, read_by}
use Rattle.tl_css.specs.StateView.{IsFailure}

pub read_first : (relative : Bool) (text : List ℕ) → within_by (item_by relative) (length text + 1) start text ≡ read_by relative text
unfolding read_by
read_first relative text = refl

-- a reader of plain selectors
pub read_plain : (text : List ℕ) → read_by false text ≡ read text
unfolding read read_by
read_plain text = refl

after_item : (Open → List ℕ → Read Item) → ℕ → List ℕ → Result Taken Wrong → Result Css Wrong
after_item next n rest r = r >>= λ t. go_on (λ st. within_by next n st rest) t

read_step : (next : Open → List ℕ → Read Item) (n : ℕ) (st : State) (s : List ℕ) (item : Item) (rest : List ℕ) → Ok (item, rest) ≡ next st.open_ s
    → within_by next (n + 1) st s ≡ after_item next n rest (taken item st)
unfolding after_item
read_step next n st s item rest e =
    ap (λ m. within_by next m st s) (add-one n)
    ∙ ap (λ (r : Result (Item × List ℕ) Wrong). r >>= λ item. taken item.0 st >>= λ t. go_on (λ st. within_by next n st item.1) t) (sym e)

pub read_goes : (next : Open → List ℕ → Read Item) (n : ℕ) (st : State) (s : List ℕ) (item : Item) (rest : List ℕ) (after : State) → Ok (item, rest) ≡ next st.open_ s
    → taken item st ≡ Ok (Goes after) → within_by next (n + 1) st s ≡ within_by next n after rest
unfolding after_item
read_goes next n st s item rest after e t = read_step next n st s item rest e ∙ ap (after_item next n rest) t

pub read_failed : (next : Open → List ℕ → Read Item) (n : ℕ) (st : State) (s : List ℕ) (item : Item) (rest : List ℕ) (failure : Failure) → Ok (item, rest) ≡ next st.open_ s
    → IsFailure failure (taken item st) → IsFailure failure (within_by next (n + 1) st s)
unfolding after_item
read_failed next n st s item rest (f.Text w) e t = read_step next n st s item rest e ∙ ap (after_item next n rest) t
read_failed next n st s item rest f.OutOfMemory e t = tt

-- the last item
pub read_done : (next : Open → List ℕ → Read Item) (n : ℕ) (st : State) (s : List ℕ) (item : Item) (rest : List ℕ) (e : Css) → Ok (item, rest) ≡ next st.open_ s
    → taken item st ≡ Ok (Done e) → within_by next (n + 1) st s ≡ Ok e
unfolding after_item
read_done next n st s item rest e is t = read_step next n st s item rest is ∙ ap (after_item next n rest) t

-- an item that is wrong
pub read_stops : (next : Open → List ℕ → Read Item) (n : ℕ) (st : State) (s : List ℕ) (w : Wrong) → Err w ≡ next st.open_ s
    → within_by next (n + 1) st s ≡ Err w
read_stops next n st s w e =
    ap (λ m. within_by next m st s) (add-one n)
    ∙ ap (λ (r : Result (Item × List ℕ) Wrong). r >>= λ item. taken item.0 st >>= λ t. go_on (λ st. within_by next n st item.1) t) (sym e)

-- what is wrong with the first item
pub first_wrong : (relative : Bool) (o : Open) (s text : List ℕ) (w : Wrong) → relative ≡ false → s ≡ text → o ≡ opened Top 0 → begin_at Top text ≡ Err w → item_by relative o s ≡ Err w
first_wrong relative o s text w plain same is e = (λ i. item_by (plain i) (is i) (same i)) ∙ e

abbrev pub ok_of : Taken → Result Taken Wrong
ok_of t = Ok t

-- a text is either read or wrong
IsFine : {A : Type 0} → Result A Wrong → Type 0
IsFine (Ok x) = Unit {0}
IsFine (Err w) = ⊥

pub not_both : {A : Type 0} (x : A) (w : Wrong) (r : Result A Wrong) → Ok x ≡ r → r ≡ Err w → ⊥
unfolding IsFine
not_both x w r a b = subst IsFine (a ∙ b) tt
