-- Patches that put in no end tag ask for the same whatever is left open.
use Rattle.std.proofs.Common.{◌≡◌, ◌++◌, ◌||◌, ℕ, suc, Bool, true, false, List, [], ◌∷◌, length, map, Option, Some, None, refl, ap, ap₂, sym, ◌∙◌, if◌then◌else◌}
use Rattle.std.specs.List.{list_any}
use Rattle.std.specs.Option.{option_to_list}
use Rattle.tl_html_spec.specs.Pieces.{Piece}
use Rattle.tl_patch_spec.specs.Elements.{Element, OpenElement}
use Rattle.tl_patch_spec.specs.LeftOpen.{Closing, LeftOpen, closed_all, closed_behind, closing_at, closings, content_end, none_open, open_after, open_with_all, without_ended}
use Rattle.tl_patch_spec.specs.Patches.{Append, Extent, Fill, Patch, Prepend, Put, PutAfter, PutBefore, Remove, RenameElement, ReplaceWith, SetAttribute, UnsetAttribute, Unwrap, asked_of}
use Rattle.tl_patch_spec.specs.Splices.{Splice}
use Rattle.tl_patch_spec.specs.Tail.{elements_up_to_tail}
use Rattle.tl_patch_spec.specs.Together.{Asked, Gone, asked_each, asked_from, end_tags, gone_after, is_gone, none_gone, piece_extent, turn_of, with_asks}
use Rattle.tl_patch_edit.specs.Open.{IsOpenFor, closes}
use Rattle.tl_patch_edit.specs.View.{meant_view, patch_view}
use Rattle.tl_patch_edit.specs.declared.ask.MeantPatch.{MeantPatch}

nothing_closes : (place : Option ℕ) → closing_at place None ≡ None
nothing_closes None = refl
nothing_closes (Some m) = refl

no_closing : (place : Option ℕ) → option_to_list (closing_at place None) ≡ []
no_closing place = ap option_to_list (nothing_closes place)

no_closings : (patch : Patch) (n : ℕ) (extent : Extent) (left : LeftOpen) → closes patch ≡ false → closings patch n extent left ≡ []
no_closings Remove n extent left e = no_closing (content_end extent)
no_closings (Fill c) n extent left e = no_closing (content_end extent)
no_closings (Prepend c) n extent left e = no_closing (content_end extent)
no_closings (RenameElement new) n extent left e = (cc)
no_closings Unwrap n extent left e = (cc)
no_closings (ReplaceWith c) n extent left e = (cc)
no_closings (PutBefore c) n extent left e = (cc)
no_closings (PutAfter c) n extent left e = (cc)
no_closings (Append c) n extent left e = (cc)
no_closings (SetAttribute key value) n extent left e = (cc)
no_closings (UnsetAttribute key) n extent left e = (cc)

-- a choice by what a patch asks for

asked_alike : (o : Option (List (Splice Put))) (f g : List (Splice Put) → Option (List Asked)) → ((asks : List (Splice Put)) → f asks ≡ g asks) →
    (elim o as (λ _. Option (List Asked)) [ None ↦ None | Some asks ↦ f asks ]) ≡ (elim o as (λ _. Option (List Asked)) [ None ↦ None | Some asks ↦ g asks ])
asked_alike None f g h = refl
asked_alike (Some asks) f g h = h asks

-- what one asks for with those behind it, by the end tags that it puts in
with_tags : List Piece → ℕ → Gone → LeftOpen → ℕ × Patch → List (ℕ × Patch) → List (Splice Put) → List Closing → Option (List Asked)
with_tags ps at gone left p patches asks cs =
    with_asks (turn_of p.1 p.0 at) asks (end_tags at left cs) (asked_from ps (suc at) (gone_after p.1 p.0 asks gone) (closed_all left cs) patches)

or_left : (a b : Bool) → (a || b) ≡ false → a ≡ false
or_left true b e = e
or_left false b e = refl

or_right : (a b : Bool) → (a || b) ≡ false → b ≡ false
or_right true b e = (cc)
or_right false b e = e

asked_any : (ps : List Piece) (at : ℕ) (gone : Gone) (left other : LeftOpen) (patches : List (ℕ × Patch)) → list_any (λ (p : ℕ × Patch). closes p.1) patches ≡ false →
    asked_from ps at gone left patches ≡ asked_from ps at gone other patches
unfolding with_tags
asked_any ps at gone left other [] h = refl
asked_any ps at gone left other (p ∷ patches) h =
    let none : closes p.1 ≡ false = or_left (closes p.1) (list_any (λ (q : ℕ × Patch). closes q.1) patches) h in
    let rest : list_any (λ (q : ℕ × Patch). closes q.1) patches ≡ false = or_right (closes p.1) (list_any (λ (q : ℕ × Patch). closes q.1) patches) h in
    let extent : Extent = piece_extent ps p.0 in
    ap₂ (λ (x y : Option (List Asked)). if is_gone gone p.0 then x else y) (asked_any ps (suc at) gone left other patches rest)
    (asked_alike (asked_of ps p.0 p.1)
    (λ asks. with_tags ps at gone left p patches asks (closings p.1 p.0 extent left))
    (λ asks. with_tags ps at gone other p patches asks (closings p.1 p.0 extent other))
    (λ asks.
    ap (with_tags ps at gone left p patches asks) (no_closings p.1 p.0 extent left none)
    ∙ ap (λ (more : Option (List Asked)). with_asks (turn_of p.1 p.0 at) asks [] more) (asked_any ps (suc at) (gone_after p.1 p.0 asks gone) left other patches rest)
    ∙ sym (ap (with_tags ps at gone other p patches asks) (no_closings p.1 p.0 extent other none))))

-- of start tags

viewed_any : (meant : List MeantPatch) → list_any (λ (p : ℕ × Patch). closes p.1) (meant_view meant) ≡ list_any (λ (m : MeantPatch). closes (patch_view m.patch)) meant
viewed_any [] = refl
viewed_any (m ∷ meant) = ap (λ b. closes (patch_view m.patch) || b) (viewed_any meant)

pub open_for_none : (es : List Element) (len : ℕ) (meant : List MeantPatch) (left : LeftOpen) → list_any (λ (m : MeantPatch). closes (patch_view m.patch)) meant ≡ false → IsOpenFor es len (meant_view meant) left
open_for_none es len meant left h = λ ps e l. asked_any ps 0 none_gone _ _ (meant_view meant) (viewed_any meant ∙ h)

pub open_for_all : (es : List Element) (len : ℕ) (patches : List (ℕ × Patch)) (left : LeftOpen) → left ≡ open_with_all es (none_open len) → IsOpenFor es len patches left
open_for_all es len patches left is = λ ps e l.
    ap (λ (own : LeftOpen). asked_from ps 0 none_gone (without_ended patches own) patches)
    (ap₂ (λ (fs : List Element) (n : ℕ). open_with_all fs (none_open n)) (sym e) l ∙ sym is)
