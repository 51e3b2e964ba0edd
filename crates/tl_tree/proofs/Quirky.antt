-- Doctypes that ask for quirks mode, part by part.
use Rattle.std.proofs.Common.{ap, refl, sym, ◌∙◌, ◌≡◌, ◌&&◌, ◌||◌, Bool, List, None, Option, Some, codes, false, is_none, is_some, map, not, true, ℕ}
use Rattle.std.proofs.Math.Bool.{or_assoc}
use Rattle.std.specs.Char.{to_ascii_lowercase}
use Rattle.std.specs.List.{list_any}
use Rattle.std.specs.Option.{option_map}
use Rattle.std.specs.Str.{bytes_eq}
use Rattle.tl_dom_spec.specs.Quirks.{begins_with_one, is_quirky, is_quirky_public, lowered, quirky_beginnings, quirky_ids, quirky_system, transitional_beginnings}
use Rattle.tl_html_spec.specs.Doctypes.{or_empty}
use Rattle.tl_tree.specs.Inner.Store.{bytes_of, doctype_at, doctype_of}
use Rattle.tl_tree.specs.declared.entries.DoctypeEntry.{DoctypeEntry}
use Rattle.tl_tree.specs.declared.store.Store.{Store}

-- Public identifiers

pub by-id : (has_system : Bool) (id : List ℕ) → list_any (bytes_eq id) quirky_ids ≡ true → true ≡ is_quirky_public has_system id
by-id has_system id own =
    sym (ap (λ (b : Bool). b || begins_with_one quirky_beginnings id || (not has_system && begins_with_one transitional_beginnings id)) own)

after-id : (has_system : Bool) (id : List ℕ) → list_any (bytes_eq id) quirky_ids ≡ false → is_quirky_public has_system id ≡ (begins_with_one quirky_beginnings id || (not has_system && begins_with_one transitional_beginnings id))
after-id has_system id other =
    ap (λ (b : Bool). b || begins_with_one quirky_beginnings id || (not has_system && begins_with_one transitional_beginnings id)) other

pub by-beginning : (has_system : Bool) (id : List ℕ) → list_any (bytes_eq id) quirky_ids ≡ false → begins_with_one quirky_beginnings id ≡ true → true ≡ is_quirky_public has_system id
by-beginning has_system id other own =
    sym (after-id has_system id other
    ∙ ap (λ (b : Bool). b || (not has_system && begins_with_one transitional_beginnings id)) own)

pub by-system : (has_system : Bool) (id : List ℕ) → list_any (bytes_eq id) quirky_ids ≡ false → begins_with_one quirky_beginnings id ≡ false → (r : Bool) → r ≡ not has_system → (t : Bool) → t ≡ begins_with_one transitional_beginnings id → (r && t) ≡ is_quirky_public has_system id
by-system has_system id other next r is t begins =
    ap (λ (b : Bool). b && t) is
    ∙ (ap (λ (b : Bool). not has_system && b) begins
    ∙ sym (after-id has_system id other
    ∙ ap (λ (b : Bool). b || (not has_system && begins_with_one transitional_beginnings id)) next))

-- Doctypes

pub some-mapped : {A B : Type 0} (f : A → B) (o : Option A) → is_some o ≡ not (is_none (option_map f o))
some-mapped f None = refl
some-mapped f (Some x) = refl

-- what is asked of the identifiers
abbrev pub ids_quirky : Store → DoctypeEntry → Bool
ids_quirky s d =
    is_quirky_public (not (is_none (option_map (bytes_of s) d.system_id))) (lowered (option_map (bytes_of s) d.public_id))
    || bytes_eq (lowered (option_map (bytes_of s) d.system_id)) quirky_system

pub by-ids : (s : Store) (d : DoctypeEntry) (r : Bool) → r ≡ is_some d.system_id → (id : List ℕ) → id ≡ or_empty (option_map (bytes_of s) d.public_id) → (p : Bool) → p ≡ is_quirky_public r (map to_ascii_lowercase id) → (q : Bool) → q ≡ bytes_eq (lowered (option_map (bytes_of s) d.system_id)) quirky_system → (p || q) ≡ ids_quirky s d
by-ids s d r some id is p public q system =
    ap (λ (b : Bool). b || q)
    (public
    ∙ (ap (λ (b : Bool). is_quirky_public b (map to_ascii_lowercase id)) (some ∙ some-mapped (bytes_of s) d.system_id)
    ∙ ap (λ (bytes : List ℕ). is_quirky_public (not (is_none (option_map (bytes_of s) d.system_id))) (map to_ascii_lowercase bytes)) is))
    ∙ ap (λ (b : Bool). is_quirky_public (not (is_none (option_map (bytes_of s) d.system_id))) (lowered (option_map (bytes_of s) d.public_id)) || b) system

pub by-parts : (s : Store) (n : ℕ) (d : DoctypeEntry) → doctype_of s d ≡ doctype_at s n → (forced other ids : Bool) → d.forces_quirks ≡ forced → not (bytes_eq (bytes_of s d.name) (codes "html")) ≡ other → ids_quirky s d ≡ ids → (forced || other || ids) ≡ is_quirky (doctype_at s n)
unfolding doctype_of
by-parts s n d e forced other ids is-forced is-other is-ids =
    sym (ap (λ (b : Bool). b || not (bytes_eq (bytes_of s d.name) (codes "html")) || ids_quirky s d) is-forced
    ∙ (ap (λ (b : Bool). forced || b || ids_quirky s d) is-other
    ∙ ap (λ (b : Bool). forced || other || b) is-ids))
    ∙ (sym (or_assoc (d.forces_quirks || not (bytes_eq (bytes_of s d.name) (codes "html"))) (is_quirky_public (not (is_none (option_map (bytes_of s) d.system_id))) (lowered (option_map (bytes_of s) d.public_id))) (bytes_eq (lowered (option_map (bytes_of s) d.system_id)) quirky_system))
    ∙ ap is_quirky e)
