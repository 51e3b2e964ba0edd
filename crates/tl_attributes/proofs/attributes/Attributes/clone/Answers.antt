use Rattle.std.proofs.Common.{◌≡◌, ◌∙◌, ap, sym, subst, true≢false, rules, List, get_or}
use Rattle.std.specs.Map.{values_of}
use Rattle.std.specs.List.{All}
use Rattle.std.specs.Prelude.{Option, None, Some, IfSome}
use Rattle.std.proofs.lemmas.List.Elements.{All-map}
use Rattle.tl_bytes.specs.Held.{Kept, borrowed}
use Rattle.tl_spec.specs.Tree.Inline.{InlineMap}
use Rattle.tl_spec.specs.Lex.AttributeList.{Attributes as AttributesOf}
use Rattle.tl_attributes.specs.HeldAttributes.{IsHeld, IsHeldPair}
use Rattle.tl_attributes.proofs.attributes.Attributes.clone.Goals as goal

pub returns-clause-ok : goal.returns-clause-ok
returns-clause-ok c =
    let id : c.in_ok-clone-2.field-0 ≡ c.self.inside.id = search rules in
    let class : c.in_ok-clone-3.field-0 ≡ c.self.inside.class = search rules in
    rw (← c.self.view_is) (λ t. record { others = c.in_ok-clone.ensures.ok t; id = id t; class = class t })

-- what holds of no value and of each value held so holds of the values
values_held : (P : Option Kept → Type 0) (es : List (Kept × Option Kept)) → P None → ((b : Kept) → IsHeld borrowed b → P (Some b))
    → All (IsHeldPair borrowed) es → All P (values_of es)
values_held P es none some pairs =
    let one : (v : Option Kept) → IfSome v (IsHeld borrowed) → P v =
    λ v. elim v as (λ v. IfSome v (IsHeld borrowed) → P v) [ None ↦ λ _. none | Some b ↦ some b ] in
    All-map P (λ e. e.1) es (λ i d h. one (get_or es i d).1 (pairs i d h).1)

pub returns-in_err-clone-clause-succeeds : goal.returns-in_err-clone-clause-succeeds
returns-in_err-clone-clause-succeeds c =
    λ inline held.
    let inside = ap (λ (a : AttributesOf _). a.others) c.self.view_is in
    let pairs : All (IsHeldPair borrowed) c.self.inside.others.entries = subst (λ (m : InlineMap _ _). All (IsHeldPair borrowed) m.entries) (sym inside) held.others in
    let place = ap (λ (m : InlineMap _ _). m.on_heap) inside ∙ inline in
    let keys = All-map (IsHeld borrowed) (λ e. e.0) c.self.inside.others.entries (λ i d h. (pairs i d h).0) in
    absurd (true≢false (sym (c.in_err-clone.ensures.succeeds place keys (search (rules, values_held)))))
