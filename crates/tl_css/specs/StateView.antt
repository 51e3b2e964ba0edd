-- What the reader has read.
use Rattle.std.specs.Prelude.{reverse, map}
use Rattle.tl_css.specs.declared.text.state.Open.{Open}
use Rattle.tl_css.specs.declared.text.state.State.{State}
use Rattle.tl_css.specs.declared.text.state.Taken.{Taken}
use Rattle.tl_css.specs.declared.text.state.Taken.TheVariants as t
use Rattle.tl_css.specs.declared.error.Failure.{Failure}
use Rattle.tl_css.specs.declared.error.Failure.TheVariants as f
use Rattle.tl_css.specs.declared.error.Wrong.{Wrong}
use Rattle.tl_css.specs.Program.{waiting_after}
use Rattle.tl_css.specs.Reading as s
use Rattle.std.specs.Prelude.{◌≡◌, ℕ, Result, Err, ⊤}
use Rattle.tl_css.specs.declared.error.Cause.{Cause}
use Rattle.tl_css.specs.declared.error.SelectorError.{SelectorError}
use Rattle.tl_css.specs.declared.error.SelectorError.TheVariants as e

abbrev pub open_list : Open → s.Open
open_list o = record {
  role = o.role;
  left = o.left;
  listed = o.listed;
  begun = o.begun;
  combinators = reverse o.combinators.items;
}

abbrev pub state : State → s.State
state st = record {
  waiting = waiting_after st.program.steps.items;
  open_ = open_list st.open;
  outer = reverse (map open_list st.outer.items);
}

abbrev pub taken : Taken → s.Taken
taken (t.Goes st) = s.Goes (state st)
taken (t.Done own) = s.Done own

-- it is what the reader says is wrong; want of memory may come at any time
abbrev pub IsFailure : {A : Type 0} → Failure → Result A Wrong → Type 0
IsFailure (f.Text wrong) r = r ≡ Err wrong
IsFailure f.OutOfMemory r = ⊤

-- it is the place and the cause that the reader says
abbrev pub IsCause : {A : Type 0} → Result A (ℕ × Cause) → SelectorError → Type 0
IsCause r (e.Text at cause) = r ≡ Err (at, cause)
IsCause r e.OutOfMemory = ⊤
