-- The list of active formatting elements (13.2.4.3).
use Rattle.std.specs.List.{list_all, list_any}
use Rattle.std.specs.Prelude.{Bool, List, None, Option, Some, [], false, if◌then◌else◌, length, nat_lt, suc, true, ℕ, ◌&&◌, ◌==◌, ◌∷◌}
use Rattle.std.specs.Str.{bytes_eq}
use Rattle.tl_dom_spec.specs.Tags.{Attribute, Tag}
use Rattle.tl_dom_spec.specs.Path.{is_open_number}
use Rattle.tl_dom_spec.specs.Builder.{Builder, Entry, add_one, formatting, insert_element, marker}

abbrev pub is_entry : ℕ → Entry → Bool
is_entry k marker = false
is_entry k (formatting n tag) = n == k

abbrev pub is_listed : ℕ → List Entry → Bool
is_listed k entries = list_any (is_entry k) entries

pub record Listed : Type 0 where
  pub number : ℕ
  pub tag : Tag

-- the latest of a name after the last marker
abbrev pub listed : List ℕ → List Entry → Option Listed
listed name [] = None
listed name (marker ∷ entries) = None
listed name (formatting k tag ∷ entries) =
    if bytes_eq name tag.name then Some (record { number = k; tag = tag }) else listed name entries

abbrev pub unlisted : ℕ → List Entry → List Entry
unlisted k [] = []
unlisted k (entry ∷ entries) =
    if is_entry k entry then unlisted k entries else entry ∷ unlisted k entries

-- an entry stands in the place of another one
abbrev pub relisted : ℕ → ℕ → List Entry → List Entry
relisted k new [] = []
relisted k new (marker ∷ entries) = marker ∷ relisted k new entries
relisted k new (formatting n tag ∷ entries) =
    formatting (if n == k then new else n) tag ∷ relisted k new entries

-- an entry stands behind another one, as the later one
abbrev pub listed_behind : ℕ → Entry → List Entry → List Entry
listed_behind k new [] = []
listed_behind k new (entry ∷ entries) =
    if is_entry k entry then new ∷ entry ∷ entries else entry ∷ listed_behind k new entries

abbrev pub is_same_attribute : Attribute → Attribute → Bool
is_same_attribute a b = bytes_eq a.key b.key && bytes_eq a.value b.value

-- the same name, and attributes that can be paired
abbrev pub is_alike : Tag → Tag → Bool
is_alike a b =
    bytes_eq a.name b.name && (length a.attributes == length b.attributes)
    && list_all (λ (x : Attribute). list_any (is_same_attribute x) b.attributes) a.attributes

-- how many there are alike after the last marker
abbrev pub alike_count : Tag → List Entry → ℕ
alike_count own [] = 0
alike_count own (marker ∷ entries) = 0
alike_count own (formatting k tag ∷ entries) =
    if is_alike own tag then suc (alike_count own entries) else alike_count own entries

-- without the earliest of them
abbrev pub without_earliest : Tag → List Entry → List Entry
without_earliest own [] = []
without_earliest own (marker ∷ entries) = marker ∷ entries
without_earliest own (formatting k tag ∷ entries) =
    if is_alike own tag && (alike_count own entries == 0) then entries
    else formatting k tag ∷ without_earliest own entries

-- the Noah's Ark clause: where there are three alike, the earliest goes
abbrev pub with_room : Tag → List Entry → List Entry
with_room own entries =
    if nat_lt 2 (alike_count own entries) then without_earliest own entries else entries

-- an element is inserted and listed as active
abbrev pub insert_formatting_element : Tag → Builder → Builder
insert_formatting_element tag b =
    record (insert_element tag b) { active = formatting b.next tag ∷ with_room tag b.active }

abbrev pub reopen : Tag → Builder → Builder
reopen tag b = record (add_one (insert_element tag b)) { active = formatting b.next tag ∷ b.active }

-- the active formatting elements are reconstructed: those that are not open, from the earliest
-- after the last marker or open one on, are inserted again
abbrev pub reopen_each : Builder → List Entry → Builder
reopen_each b [] = record b { active = [] }
reopen_each b (marker ∷ entries) = record b { active = marker ∷ entries }
reopen_each b (formatting k tag ∷ entries) =
    elim (is_open_number k b.path) as (λ _. Builder) [
      | true ↦ record b { active = formatting k tag ∷ entries }
      | false ↦ reopen tag (reopen_each b entries)
    ]

abbrev pub reconstruct_formatting : Builder → Builder
reconstruct_formatting b = reopen_each b b.active
