-- Which selector a text is, or the first byte that is wrong and the cause.
use Rattle.std.specs.Prelude.{ℕ, zero, suc, ◌+◌, ◌-◌, Bool, true, false, nat_lt, if◌then◌else◌, List, [], ◌∷◌, length, Result, Ok, Err}
use Rattle.tl_css.specs.declared.error.Wrong.{Wrong}
use Rattle.tl_css.specs.declared.error.Cause.{Cause}
use Rattle.tl_css.specs.declared.error.Cause.TheVariants.{TooDeep, Unexpected}
use Rattle.tl_css.specs.declared.selector.Link.{Link}
use Rattle.tl_css.specs.declared.selector.Link.TheVariants.{Parent, Sibling}
use Rattle.tl_css.specs.declared.selector.Reach.{Reach}
use Rattle.tl_css.specs.declared.selector.Reach.TheVariants.{Once, Often}
use Rattle.tl_css.specs.declared.selector.Way.TheVariants.{From, To}
use Rattle.tl_css.specs.declared.text.role.Role.{Role}
use Rattle.tl_css.specs.declared.text.role.Role.TheVariants.{Top, Is as IsRole, Not as NotRole, Has, NthOf}
use Rattle.tl_css.specs.declared.text.role.Combinator.{Combinator}
use Rattle.tl_css.specs.declared.text.role.Combinator.TheVariants.{Descendant, Child, NextSibling, SubsequentSibling}
use Rattle.tl_css.specs.declared.text.role.Before.{Before}
use Rattle.tl_css.specs.declared.text.role.Before.TheVariants.{Touching, After, Begin}
use Rattle.tl_css.specs.Selector.{Css, Not, At, Nth}
use Rattle.tl_css.specs.Program.{meet, unite, change, last_waiting}
use Rattle.tl_css.specs.Read.{Read, wrong, wrong_at, ◌>>=◌}
use Rattle.tl_css.specs.PseudoClass.{Simple, Whole, Opens}
use Rattle.tl_css.specs.Item.{Item, End, Comma, Part, is_relative, begin_at, next_at}

-- A list of complex selectors that is being read
pub record Open : Type 0 where
  -- what it is for
  pub role : Role
  -- how many bytes are left from its bracket on
  pub left : ℕ
  -- a complex selector of it stands already
  pub listed : Bool
  -- a simple selector of the present compound stands already
  pub begun : Bool
  -- in a relative selector, the combinators before each compound, the last one first
  pub combinators : List Combinator

-- What has been read: the selectors that wait to be put together, the last one first, the list that
-- is being read, and those around it
pub record State : Type 0 where
  pub waiting : List Css
  pub open_ : Open
  pub outer : List Open

abbrev pub opened : Role → ℕ → Open
opened role left = record {
  role = role;
  left = left;
  listed = false;
  begun = false;
  combinators = [];
}

abbrev pub start : State
start = record { waiting = []; open_ = opened Top 0; outer = [] }

abbrev pub link_of : Combinator → Link
link_of Descendant = Parent
link_of Child = Parent
link_of NextSibling = Sibling
link_of SubsequentSibling = Sibling

abbrev pub reach_of : Combinator → Reach
reach_of Descendant = Often
reach_of Child = Once
reach_of NextSibling = Once
reach_of SubsequentSibling = Often

-- A combinator after a compound: what has been read holds at a tag from which links lead here. In a
-- relative selector it waits for the end, where links lead from here to what follows.
abbrev pub combine : Combinator → State → State
combine combinator st =
    if is_relative st.open_.role then record st {
      open_ =
          record st.open_ { begun = false; combinators = combinator ∷ st.open_.combinators };
    }
    else record st {
      waiting =
          change (At From (link_of combinator) (reach_of combinator)) st.waiting;
    }

abbrev pub lead : Combinator → State → State
lead combinator st = if is_relative st.open_.role then combine combinator st else st

abbrev pub with_before : Before → State → State
with_before Touching st = st
with_before (After combinator) st = combine combinator st
with_before (Begin combinator) st = lead combinator st

-- a selector, put together with what is begun of its compound
abbrev pub meet_if : Bool → List Css → List Css
meet_if begun es = if begun then meet es else es

abbrev pub with_simple : Simple → State → State
with_simple (Whole e) st = record st {
  waiting = meet_if st.open_.begun (e ∷ st.waiting);
  open_ = record st.open_ { begun = true };
}
with_simple (Opens role left) st =
    record st { open_ = opened role left; outer = st.open_ ∷ st.outer }

-- the last one, seen from where a combinator leads to it, and put together with what stands there
abbrev pub seen : Combinator → Bool → List Css → List Css
seen c more es = meet_if more (change (At To (link_of c) (reach_of c)) es)

-- the compounds of a relative selector, put together from the last one to the first, as they are
-- seen from its anchor
abbrev pub relate : List Combinator → List Css → List Css
relate [] es = es
relate (c ∷ cs) es = relate cs (seen c (nat_lt 0 (length cs)) es)

abbrev pub unite_if : Bool → List Css → List Css
unite_if more es = if more then unite es else es

-- the end of a complex selector
abbrev pub finish : State → State
finish st = record st {
  waiting = unite_if st.open_.listed (relate st.open_.combinators st.waiting);
  open_ = record st.open_ { listed = true; begun = false; combinators = [] };
}

-- what a list is made into
abbrev pub apply_role : Role → List Css → List Css
apply_role Top es = es
apply_role IsRole es = es
apply_role NotRole es = change Not es
apply_role Has es = es
apply_role (NthOf way formula) es = change (Nth way Sibling formula) es

-- how many selectors may wait where a simple selector begins: two more may wait while it is put
-- together, so at most 60 at once
abbrev pub most_waiting : ℕ
most_waiting = 58

-- what comes of an item
pub data Taken : Type 0 where
  Goes : State → Taken
  Done : Css → Taken

-- the end of a list
abbrev pub close : State → List Open → Taken
close st [] = Done (last_waiting st.waiting)
close st (open_ ∷ outer) =
    Goes (record {
      waiting = meet_if open_.begun (apply_role st.open_.role st.waiting);
      open_ = record open_ { begun = true };
      outer = outer;
    })

abbrev pub taken : Item → State → Result Taken Wrong
taken End st = Ok (close (finish st) st.outer)
taken Comma st = Ok (Goes (finish st))
taken (Part before left simple) st =
    if nat_lt most_waiting (length st.waiting) then wrong_at left TooDeep
    else Ok (Goes (with_simple simple (with_before before st)))

-- the next item of the list that is being read
abbrev pub item_at : Open → List ℕ → Read Item
item_at open_ s = if open_.begun then next_at open_.role open_.left s else begin_at open_.role s

abbrev pub go_on : (State → Result Css Wrong) → Taken → Result Css Wrong
go_on more (Goes st) = more st
go_on more (Done e) = Ok e

-- the selector that at most n items leave, of which each is read by the same function
abbrev pub within_by : (Open → List ℕ → Read Item) → ℕ → State → List ℕ → Result Css Wrong
within_by next zero st s = wrong s Unexpected
within_by next (suc n) st s =
    next st.open_ s >>= λ item. taken item.0 st >>= λ taken.
    go_on (λ st. within_by next n st item.1) taken

abbrev pub read_within : ℕ → State → List ℕ → Result Css Wrong
read_within n st s = within_by item_at n st s

-- the same from the front of a text: each item but the last takes a byte
unfoldable pub read : List ℕ → Result Css Wrong
read text = read_within (length text + 1) start text

-- where it is wrong, as a place in the text
abbrev pub placed : List ℕ → Result Css Wrong → Result Css (ℕ × Cause)
placed text (Ok e) = Ok e
placed text (Err wrong) = Err (length text - wrong.left, wrong.cause)

abbrev pub css_at : List ℕ → Result Css (ℕ × Cause)
css_at text = placed text (read text)
