-- Why markup isn't read.
use Rattle.std.proofs.Common.{Bool, Err, IfErr, IfOk, List, MatchResult, Ok, Result, Some, ap, false, subst, ℕ, ◌∙◌, ◌≡◌}
use Rattle.std.specs.Prelude.{slice_get}
use Rattle.tl_dom_spec.specs.HtmlTree.{Context, is_fragment_in_proportion_by, standard}
use Rattle.tl_tree.specs.Rows.{Row}
use Rattle.tl_tree.specs.Sources.{IsOutOfProportionAt, fragment_begin}
use Rattle.tl_tree.specs.declared.error.ReadError.{ReadError}
use Rattle.tl_tree.specs.declared.error.ReadError.TheVariants as read
use Rattle.tl_tree.specs.declared.tree.Tree.{Tree}
use Rattle.tl_tree_edit.specs.Errors.{error_of_read}
use Rattle.tl_tree_edit.specs.Inner.Contexts.{IsUnmadeIn, seat_at, seat_context}
use Rattle.tl_tree_edit.specs.Operations.{context, is_adjacent}
use Rattle.tl_tree_edit.specs.Unmade.{IsUnput, IsUnreadIn}
use Rattle.tl_tree_edit.specs.declared.error.MadeError.{MadeError}
use Rattle.tl_tree_edit.specs.declared.error.MadeError.TheVariants as error
use Rattle.tl_tree_edit.specs.declared.position.Position.{Position}
use Rattle.tl_tree_edit.specs.declared.readings.Seat.{Seat}

pub unread_in : (markup : List ℕ) (own : Context) (r : Result Tree ReadError) (why : ReadError) → r ≡ Err why →
    ((at : ℕ) → r ≡ Err (read.OutOfProportion at) → is_fragment_in_proportion_by standard own markup ≡ false) →
    ((at : ℕ) → r ≡ Err (read.OutOfProportion at) → IsOutOfProportionAt markup (fragment_begin standard own) at) → IsUnmadeIn markup own (error_of_read why)
unread_in markup own r read.OutOfMemory is out place = tt
unread_in markup own r read.TooLarge is out place = tt
unread_in markup own r (read.OutOfProportion at) is out place = (out at is, place at is)

module _ (rows : List Row) (q : Bool) (position : Position) (n : ℕ) where
  -- the element in which markup is read that is put there
  pub seat_is : (is : Bool) (seat : Seat) → is ≡ is_adjacent position → seat ≡ seat_at rows position n → seat_context rows q is seat ≡ context rows q position n
  seat_is is seat adjacent e =
      ap (λ (b : Bool). seat_context rows q b seat) adjacent ∙ ap (seat_context rows q (is_adjacent position)) e

  -- one of the elements from which it isn't read
  pub unput_seen : (markup numbers : List ℕ) (k : ℕ) (own : Context) (why : MadeError) → slice_get numbers k ≡ Some n → own ≡ context rows q position n →
      IsUnmadeIn markup own why → IsUnput rows q position markup numbers why
  unput_seen markup numbers k own error.OutOfMemory stands e h = tt
  unput_seen markup numbers k own (error.Unread why) stands e h =
      record { place = k; number = n; among = stands; unread = subst (λ (x : Context). IsUnreadIn markup x why) e h }

-- the two sides of a result

pub made_of : {A E : Type 0} (r : Result A E) (P : A → Type 0) (Q : E → Type 0) → MatchResult r P Q → IfOk r P
made_of (Ok a) P Q h = h
made_of (Err e) P Q h = tt

pub unmade_of : {A E : Type 0} (r : Result A E) (P : A → Type 0) (Q : E → Type 0) → MatchResult r P Q → IfErr r Q
unmade_of (Ok a) P Q h = tt
unmade_of (Err e) P Q h = h
