-- A doctype that was read, put into a store part by part.
use Rattle.std.proofs.Common.{ap, sym, ◌∙◌, ◌≡◌, ◌&&◌, Bool, false, true, IsTrue, List, None, Option, Some, if◌then◌else◌, length, refl, ℕ}
use Rattle.std.proofs.lemmas.Bool.{and_from}
use Rattle.std.specs.Option.{option_map}
use Rattle.tl_html_spec.specs.Doctypes.{Doctyping, is_bogus, is_cut, quirks_forced}
use Rattle.tl_html_tokens.specs.Doctypes.{doctype_at}
use Rattle.tl_tree.proofs.Grown.{bytes-grown, grows_trans}
use Rattle.tl_tree.proofs.SaidTags.{span-kept}
use Rattle.tl_tree.specs.Inner.Store.{Grows, bytes_of, doctype_of, is_doctype, is_span}
use Rattle.tl_tree.specs.Inner.Within.{id_is_within}
use Rattle.tl_tree.specs.declared.entries.DoctypeEntry.{DoctypeEntry}
use Rattle.tl_tree.specs.declared.span.Span.{Span}
use Rattle.tl_tree.specs.declared.store.Store.{Store}

abbrev pub is_id : Store → Option Span → Bool
is_id s id = id_is_within (length s.page.now) (length s.side.items) id

id-kept : (s t : Store) → Grows s t → (id : Option Span) → IsTrue (is_id s id) → IsTrue (is_id t id)
id-kept s t g None h = refl
id-kept s t g (Some span) h = span-kept s t g span h

id-same : (s t : Store) → Grows s t → (id : Option Span) → IsTrue (is_id s id) → option_map (bytes_of t) id ≡ option_map (bytes_of s) id
id-same s t g None h = refl
id-same s t g (Some span) h = ap Some (bytes-grown s t g span h)

-- how a doctype ends changes no other part
doctype-shape : (is_whole : Bool) (d : Doctyping) → doctype_at is_whole d ≡ record { name = d.own.name; public_id = d.own.public_id; system_id = d.own.system_id; forces_quirks = (doctype_at is_whole d).forces_quirks }
doctype-shape true d =
    elim (is_cut d.part) as (λ (b : Bool). (if b then (quirks_forced d).own else d.own) ≡ record { name = d.own.name; public_id = d.own.public_id; system_id = d.own.system_id; forces_quirks = (if b then (quirks_forced d).own else d.own).forces_quirks }) [
      | true ↦ refl
      | false ↦ refl
    ]
doctype-shape false d =
    elim (is_bogus d.part) as (λ (b : Bool). (if b then d.own else (quirks_forced d).own) ≡ record { name = d.own.name; public_id = d.own.public_id; system_id = d.own.system_id; forces_quirks = (if b then d.own else (quirks_forced d).own).forces_quirks }) [
      | true ↦ refl
      | false ↦ refl
    ]

pub doctype-put : (s t u : Store) → Grows s t → Grows t u → (own : DoctypeEntry) (d : Doctyping) (is_whole : Bool) →
    IsTrue (is_span s own.name) → bytes_of s own.name ≡ d.own.name →
    IsTrue (is_id t own.public_id) → option_map (bytes_of t) own.public_id ≡ d.own.public_id →
    option_map (bytes_of u) own.system_id ≡ d.own.system_id →
    own.forces_quirks ≡ (doctype_at is_whole d).forces_quirks → doctype_of u own ≡ doctype_at is_whole d
unfolding doctype_of
doctype-put s t u g more own d is_whole within name public_within public system quirks =
    let name_now : bytes_of u own.name ≡ d.own.name = bytes-grown s u (grows_trans s t u g more) own.name within ∙ name in
    let public_now : option_map (bytes_of u) own.public_id ≡ d.own.public_id = id-same t u more own.public_id public_within ∙ public in
    ap (λ (x : List ℕ). record { name = x; public_id = option_map (bytes_of u) own.public_id; system_id = option_map (bytes_of u) own.system_id; forces_quirks = own.forces_quirks }) name_now
    ∙ (ap (λ (x : Option (List ℕ)). record { name = d.own.name; public_id = x; system_id = option_map (bytes_of u) own.system_id; forces_quirks = own.forces_quirks }) public_now
    ∙ (ap (λ (x : Option (List ℕ)). record { name = d.own.name; public_id = d.own.public_id; system_id = x; forces_quirks = own.forces_quirks }) system
    ∙ (ap (λ (x : Bool). record { name = d.own.name; public_id = d.own.public_id; system_id = d.own.system_id; forces_quirks = x }) quirks
    ∙ sym (doctype-shape is_whole d))))

pub doctype-within : (s t u : Store) → Grows s t → Grows t u → (own : DoctypeEntry) → IsTrue (is_span s own.name) → IsTrue (is_id t own.public_id) → IsTrue (is_id u own.system_id) → IsTrue (is_doctype u own)
doctype-within s t u g more own name public system =
    and_from (is_span u own.name) (is_id u own.public_id && is_id u own.system_id)
    (span-kept s u (grows_trans s t u g more) own.name name)
    (and_from (is_id u own.public_id) (is_id u own.system_id) (id-kept t u more own.public_id public) system)
