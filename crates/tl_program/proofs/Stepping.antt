-- What one step makes of a table, and what steps make in order.
use Rattle.std.proofs.Common.{◌≡◌, ℕ, ◌+◌, ◌<◌, ◌≤◌, add-one, arith, Bool, List, length, map, take, slice_index_or, Option, Some, option_map, Result, Ok, Err, IsOk, sym, ap, ◌∙◌, subst}
use Rattle.std.specs.List.{slice_get}
use Rattle.std.specs.Prelude.{IsTrue, IsSomeAnd, IsErrAnd}
use Rattle.std.proofs.lemmas.Option.{slice_get-map, slice_get-get_or}
use Rattle.std.proofs.lemmas.List.{length-map, take_all}
use Rattle.tl_spec.specs.Tree.Document.{Document}
use Rattle.tl_spec.specs.Edit.{Change, Refusal, no_node, not_tag, no_place, map_ok, apply_change, apply_changes, none_refused, refusal_at}
use Rattle.tl_spec.proofs.Edit.Shape.{apply_changes-refused}
use Rattle.tl.specs.View.{HTMLTag, HTMLNode, document_of, HTMLTable}
use Rattle.tl.specs.Inner.TableLends.{with_node}
use Rattle.tl.specs.declared.parser.tag.node.NodeOf.TheVariants.{Tag}
use Rattle.tl_program.specs.Steps.{change_of}
use Rattle.tl_program.specs.declared.script.step.Step.{Step}
use Rattle.tl_program.specs.declared.script.step.StepError.{StepError}
use Rattle.tl_program.specs.declared.script.step.StepError.TheVariants.{NoNode, NotTag, NoPlace, OutOfMemory}
use Rattle.tl_program.specs.TableEdit.{of_tag, of_node, at_node, edited_table, table_after, takes_memory}
use Rattle.tl_program.specs.Script.{IsRefused, Changes, StopsAt}
use Rattle.tl_program.proofs.Tables.{image-edited_table, image-table_after, set_same, table_after-more}

-- an edit within another is refused alike
IsRefused-on_ok : {A B : Type 0} (takes : Bool) (f : A → B) (r : Result A Refusal) (e : StepError) → IsRefused takes r e → IsRefused takes (map_ok f r) e
IsRefused-on_ok takes f r NoNode h = ap (map_ok f) h
IsRefused-on_ok takes f r NotTag h = ap (map_ok f) h
IsRefused-on_ok takes f r NoPlace h = ap (map_ok f) h
IsRefused-on_ok takes f (Ok x) OutOfMemory h = h
IsRefused-on_ok takes f (Err refusal) OutOfMemory h = h

-- an edit of the node at a number, where the table that is lent is the old one
module _ (lent old : HTMLTable) (n : ℕ) (node : HTMLNode) (same : lent ≡ old) (there : Some node ≡ slice_get lent.nodes n) (takes : Bool) (edit : HTMLNode → Result HTMLNode Refusal) where
  found : at_node n edit old ≡ map_ok (with_node lent n) (edit node)
  found = ap (at_node n edit) (sym same) ∙ ap (of_node lent n edit) (sym there)

  kept : (A : Type 0) (e : StepError) → IsRefused takes (edit node) e → Changes {A = A} takes (at_node n edit) old (with_node lent n node) (Err e)
  kept A e refused =
      let P : Result HTMLTable Refusal → Type 0 = λ r. IsRefused takes r e in
      (ap (λ nodes. record lent { nodes = nodes }) (set_same lent.nodes n node there) ∙ same, subst P (sym found) (IsRefused-on_ok takes (with_node lent n) (edit node) e refused))

  pub node-stepped : {A : Type 0} (new : HTMLNode) (r : Result A StepError) → Changes takes edit node new r → Changes takes (at_node n edit) old (with_node lent n new) r
  node-stepped new (Ok x) h = found ∙ ap (map_ok (with_node lent n)) h
  node-stepped {A} new (Err e) h =
      let P : HTMLNode → Type 0 = λ m. Changes {A = A} takes (at_node n edit) old (with_node lent n m) (Err e) in
      subst P (sym h.0) (kept A e h.1)

  pub kept_for_memory : {A : Type 0} (r : Result A StepError) → IsErrAnd r (λ e. e ≡ OutOfMemory) → IsTrue takes → IsOk (edit node) → Changes takes (at_node n edit) old (with_node lent n node) r
  kept_for_memory (Ok x) is memory made = absurd is
  kept_for_memory {A} (Err e) is memory made =
      let P : StepError → Type 0 = λ e. Changes {A = A} takes (at_node n edit) old (with_node lent n node) (Err e) in
      subst P (sym is) (kept A OutOfMemory (memory, made))

-- a change of a tag is that of the table
module _ (lent old : HTMLTable) (n : ℕ) (tag : HTMLTag) (same : lent ≡ old) (there : slice_get lent.nodes n ≡ Some (Tag tag)) (takes : Bool) (edit : HTMLTag → Result HTMLTag Refusal) where
  pub tag-stepped : {A : Type 0} (new : HTMLTag) (r : Result A StepError) → Changes takes edit tag new r → Changes takes (at_node n (of_tag edit)) old (with_node lent n (Tag new)) r
  tag-stepped new (Ok x) h = node-stepped lent old n (Tag tag) same (sym there) takes (of_tag edit) (Tag new) (Ok x) (ap (map_ok Tag) h)
  tag-stepped {A} new (Err e) h = node-stepped lent old n (Tag tag) same (sym there) takes (of_tag edit) {A = A} (Tag new) (Err e) (ap Tag h.0, IsRefused-on_ok takes Tag (edit tag) e h.1)

-- steps in order, where those before a place are done
module _ (steps : List Step) (old now new : HTMLTable) (i : ℕ) (x : Step) (within : i < length steps) (before : table_after (take i (map change_of steps)) old ≡ Ok now) where
  abbrev change : Change
  change = change_of (slice_index_or steps i x)

  here : slice_get (map change_of steps) i ≡ Some change
  here = slice_get-map change_of steps i ∙ ap (option_map change_of) (slice_get-get_or steps i x within)

  pub steps-taken : edited_table change now ≡ Ok new → table_after (take (i + 1) (map change_of steps)) old ≡ Ok new
  steps-taken ok = ap (λ (k : ℕ). table_after (take k (map change_of steps)) old) (add-one i) ∙ table_after-more change (map change_of steps) old now new i before here ok

  pub steps-refused : (takes : Bool) (error : StepError) → new ≡ now → IsRefused takes (edited_table change now) error → StopsAt (map change_of steps) (document_of old) (document_of new) i error
  steps-refused takes error same h =
      let P : HTMLTable → Type 0 = λ t. StopsAt (map change_of steps) (document_of old) (document_of t) i error in
      let Q : Result Document Refusal → Type 0 = λ r. IsRefused takes r error in
      subst P (sym same) (by error (subst Q (sym (image-edited_table change now)) (IsRefused-on_ok takes document_of (edited_table change now) error h)))
    where
      shown : apply_changes (take i (map change_of steps)) (document_of old) ≡ none_refused (document_of now)
      shown = image-table_after (take i (map change_of steps)) old now before

      refused : (refusal : Refusal) → apply_change change (document_of now) ≡ Err refusal → apply_changes (map change_of steps) (document_of old) ≡ refusal_at i refusal (document_of now)
      refused refusal is = apply_changes-refused change (document_of now) (map change_of steps) (document_of old) i refusal shown here is

      by : (e : StepError) → IsRefused takes (apply_change change (document_of now)) e → StopsAt (map change_of steps) (document_of old) (document_of now) i e
      by NoNode is = refused no_node is
      by NotTag is = refused not_tag is
      by NoPlace is = refused no_place is
      by OutOfMemory is = let P : Option Change → Type 0 = λ o. IsSomeAnd o (λ c. IsOk (apply_change c (document_of now))) in (shown, subst P (sym here) is.1)

  -- memory is wanted only of an edit that takes it
  pub steps-want : (error : StepError) → IsRefused (takes_memory change) (edited_table change now) error → error ≡ OutOfMemory → IsSomeAnd (slice_get (map change_of steps) i) (λ c. IsTrue (takes_memory c))
  steps-want error h is =
      let P : StepError → Type 0 = λ e. IsRefused (takes_memory change) (edited_table change now) e in
      let Q : Option Change → Type 0 = λ o. IsSomeAnd o (λ c. IsTrue (takes_memory c)) in
      let wants : IsTrue (takes_memory change) × IsOk (edited_table change now) = subst P is h in
      subst Q (sym here) wants.0

-- steps of which none is left
pub steps-all : (steps : List Step) (old now : HTMLTable) (i : ℕ) → length steps ≤ i → table_after (take i (map change_of steps)) old ≡ Ok now → table_after (map change_of steps) old ≡ Ok now
steps-all steps old now i past none_refused =
    let all : take i (map change_of steps) ≡ map change_of steps = take_all i (map change_of steps) (omega (arith, length-map steps change_of)) in
    ap (λ (cs : List Change). table_after cs old) (sym all) ∙ none_refused
