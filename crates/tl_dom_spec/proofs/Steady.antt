-- What is done to a builder, and enough for `bound` to suffice: it keeps that.
use Rattle.std.proofs.Common.{Bool, List, None, Option, Some, [], false, if◌then◌else◌, inl, inr, not, refl, suc, sym, true, true≢false, zero, ℕ, ◌&&◌, ◌++◌, ◌==◌, ◌||◌, ◌∙◌, ◌∷◌, ◌≡◌}
use Rattle.std.specs.Prelude.{nat_lt}
use Rattle.std.specs.Str.{bytes_eq}
use Rattle.std.proofs.lemmas.Bool.{cases_Bool, cond_both, or_left, or_right}
use Rattle.tl_dom_spec.specs.Tags.{Attribute, Tag, is_named, is_scope, is_special, is_template}
use Rattle.tl_dom_spec.specs.Path.{Frame, Nodes, Path, Place, at_number, elements, has_number, has_tag, here, is_open_number, new_frame, no_frame, no_nodes, place_in, put, taken_out, within}
use Rattle.tl_dom_spec.specs.Builder.{Again, Builder, Done, Entry, Flags, Outcome, add_attributes, appropriate_place, close_except_for, current_node, formatting, in_template, insert_element_at, marker, pop_current_node, repeated, with_more, with_path}
use Rattle.tl_dom_spec.specs.Formatting.{Listed, alike_count, insert_formatting_element, is_alike, is_listed, listed, listed_behind, reconstruct_formatting, relisted, unlisted, with_room, without_earliest}
use Rattle.tl_dom_spec.specs.Adoption.{Clones, adopted, adoption_agency, adoption_round, any_other_end_tag, cloned, entry_moved, first, furthest_block, inside_of, moved_into, outermost, outermost_at, outside_of, readopted, settled_to, with_block, with_formatting}
use Rattle.tl_dom_spec.specs.Body.{from_html}
use Rattle.tl_dom_spec.specs.Lawful.{AreFormatting, AreTemplateModes, IsRooted, IsSteady}
use Rattle.tl_dom_spec.specs.HtmlTree.{Context, fragment_start, page_start}
use Rattle.tl_dom_spec.proofs.PathTags.{or_right_of, pushed-Rooted, put-Rooted, settled_while-Rooted, under-Rooted}
use Rattle.tl_dom_spec.proofs.Pending.{IsPlain, from_reopened, reopened}
use Rattle.tl_dom_spec.proofs.Allowed.{Each, IfSome}
use Rattle.tl_dom_spec.proofs.Adopting.{each-weaken, same_number}
use Rattle.tl_dom_spec.proofs.Staying as Y

-- the path

pub put-steady : (place : Place) (nodes : Nodes) (b : Builder) → IsSteady b → IsSteady (with_path b (put place nodes b.path))
put-steady place nodes b r = (put-Rooted place nodes b.path r.0, r.1, r.2, r.3)

pub at-steady : (place : Place) (tag : Tag) (b : Builder) → IsSteady b → IsSteady (insert_element_at place tag b)
at-steady place tag b r = (pushed-Rooted place (new_frame b.next tag place) b.path r.0, r.1, r.2, r.3)

abbrev StaysShut : (Frame → Frame) → Type 0
StaysShut change = (f : Frame) → f.is_open ≡ false → (change f).is_open ≡ false

at_number-Rooted : (k : ℕ) (change : Frame → Frame) (path : Path) → StaysShut change → IsRooted path → IsRooted (at_number k change path)
at_number-Rooted k change [] s r = r
at_number-Rooted k change (f ∷ []) s r = cond_both (f.number == k) (change f) f (λ (g : Frame). g.is_open ≡ false) (λ _. s f r) (λ _. r)
at_number-Rooted k change (f ∷ g ∷ path) s r = at_number-Rooted k change (g ∷ path) s r

pub attributes-steady : (k : ℕ) (more : List Attribute) (b : Builder) → IsSteady b → IsSteady (add_attributes k more b)
attributes-steady k more b r = (at_number-Rooted k (λ (f : Frame). record f { tag = with_more more f.tag }) b.path (λ f s. s) r.0, r.1, r.2, r.3)

taken_out-Rooted : (k : ℕ) (path : Path) → IsRooted path → IsRooted (taken_out k path)
taken_out-Rooted k path r =
    let less : Path = at_number k (λ (f : Frame). record f { is_open = false }) path in
    settled_while-Rooted no_frame less less (at_number-Rooted k (λ (f : Frame). record f { is_open = false }) path (λ f s. refl) r)

pub taken_out-steady : (k : ℕ) (b : Builder) → IsSteady b → IsSteady (with_path b (taken_out k b.path))
taken_out-steady k b r = (taken_out-Rooted k b.path r.0, r.1, r.2, r.3)

from_html-Rooted : (path : Path) → IsRooted path → IsRooted (from_html path)
from_html-Rooted [] r = r
from_html-Rooted (f ∷ []) r = r
from_html-Rooted (f ∷ g ∷ path) r = cond_both (f.number == 1) _ _ IsRooted (λ _. r) (λ _. from_html-Rooted (g ∷ path) r)

pub from_html-steady : (b : Builder) → IsSteady b → IsSteady (with_path b (from_html b.path))
from_html-steady b r = (from_html-Rooted b.path r.0, r.1, r.2, r.3)

-- the list of active formatting elements

earliest : (own : Tag) (entries : List Entry) → AreFormatting entries → AreFormatting (without_earliest own entries)
earliest own [] h = tt
earliest own (marker ∷ entries) h = h
earliest own (formatting k tag ∷ entries) h =
    cond_both (is_alike own tag && (alike_count own entries == 0)) _ _ AreFormatting (λ _. h.1) (λ _. (h.0, earliest own entries h.1))

room : (own : Tag) (entries : List Entry) → AreFormatting entries → AreFormatting (with_room own entries)
room own entries h = cond_both (nat_lt 2 (alike_count own entries)) _ _ AreFormatting (λ _. earliest own entries h) (λ _. h)

pub formatting-steady : (tag : Tag) (b : Builder) → IsPlain tag → IsSteady b → IsSteady (insert_formatting_element tag b)
formatting-steady tag b p r = let c = at-steady (appropriate_place b) tag b r in (c.0, c.1, c.2, (p, room tag b.active r.3))

pub reconstruct-steady : (b : Builder) → IsSteady b → IsSteady (reconstruct_formatting b)
reconstruct-steady b r = from_reopened b (reconstruct_formatting b) (reopened b b.active r.3) r

unlisted-formatting : (k : ℕ) (entries : List Entry) → AreFormatting entries → AreFormatting (unlisted k entries)
unlisted-formatting k [] h = tt
unlisted-formatting k (marker ∷ entries) h = unlisted-formatting k entries h
unlisted-formatting k (formatting n tag ∷ entries) h =
    cond_both (n == k) (unlisted k entries) (formatting n tag ∷ unlisted k entries) AreFormatting
    (λ _. unlisted-formatting k entries h.1) (λ _. (h.0, unlisted-formatting k entries h.1))

pub unlisted-steady : (k : ℕ) (b : Builder) → IsSteady b → IsSteady (record b { active = unlisted k b.active })
unlisted-steady k b r = (r.0, r.1, r.2, unlisted-formatting k b.active r.3)

relisted-formatting : (k new : ℕ) (entries : List Entry) → AreFormatting entries → AreFormatting (relisted k new entries)
relisted-formatting k new [] h = tt
relisted-formatting k new (marker ∷ entries) h = relisted-formatting k new entries h
relisted-formatting k new (formatting n tag ∷ entries) h = (h.0, relisted-formatting k new entries h.1)

behind-formatting : (k new : ℕ) (tag : Tag) (entries : List Entry) → IsPlain tag → AreFormatting entries → AreFormatting (listed_behind k (formatting new tag) entries)
behind-formatting k new tag [] p h = tt
behind-formatting k new tag (marker ∷ entries) p h = behind-formatting k new tag entries p h
behind-formatting k new tag (formatting n own ∷ entries) p h =
    cond_both (n == k) (formatting new tag ∷ formatting n own ∷ entries) (formatting n own ∷ listed_behind k (formatting new tag) entries) AreFormatting
    (λ _. (p, h)) (λ _. (h.0, behind-formatting k new tag entries p h.1))

listed-plain : (name : List ℕ) (entries : List Entry) → AreFormatting entries → IfSome (λ (own : Listed). IsPlain own.tag) (listed name entries)
listed-plain name [] h = tt
listed-plain name (marker ∷ entries) h = tt
listed-plain name (formatting k tag ∷ entries) h =
    cond_both (bytes_eq name tag.name) (Some (record { number = k; tag = tag })) (listed name entries) (IfSome (λ (own : Listed). IsPlain own.tag))
    (λ _. h.0) (λ _. listed-plain name entries h.1)

moved-formatting : (k new : ℕ) (tag : Tag) (clones : Path) (entries : List Entry) → IsPlain tag → AreFormatting entries → AreFormatting (entry_moved k new tag clones entries)
moved-formatting k new tag [] entries p h = relisted-formatting k new entries h
moved-formatting k new tag (clone ∷ clones) entries p h = behind-formatting clone.number new tag (unlisted k entries) p (unlisted-formatting k entries h)

cloned-formatting : (count : ℕ) (fs : List Frame) (entries : List Entry) (next : ℕ) → AreFormatting entries → AreFormatting (cloned count fs entries next).entries
cloned-formatting count [] entries next e = e
cloned-formatting count (f ∷ fs) entries next e =
    elim (is_listed f.number entries) as (λ v. AreFormatting (elim v as (λ _. Clones) [
      | false ↦ cloned (suc count) fs entries next
      | true ↦ elim (nat_lt 2 count) as (λ _. Clones) [
        | true ↦ cloned (suc count) fs (unlisted f.number entries) next
        | false ↦ (let r = cloned (suc count) fs (relisted f.number next entries) (suc next) in
            record r { frames = new_frame next f.tag here ∷ r.frames })
      ]
    ]).entries) [
      | false ↦ cloned-formatting (suc count) fs entries next e
      | true ↦ elim (nat_lt 2 count) as (λ w. AreFormatting (elim w as (λ _. Clones) [
        | true ↦ cloned (suc count) fs (unlisted f.number entries) next
        | false ↦ (let r = cloned (suc count) fs (relisted f.number next entries) (suc next) in
            record r { frames = new_frame next f.tag here ∷ r.frames })
      ]).entries) [
        | true ↦ cloned-formatting (suc count) fs (unlisted f.number entries) next (unlisted-formatting f.number entries e)
        | false ↦ cloned-formatting (suc count) fs (relisted f.number next entries) (suc next) (relisted-formatting f.number next entries e)
      ]
    ]

-- the adoption agency

append-Rooted : (front path : Path) → IsRooted path → IsRooted (front ++ path)
append-Rooted [] path r = r
append-Rooted (f ∷ front) path r = under-Rooted f (front ++ path) (append-Rooted front path r)

-- what is outside of an open element
outside-Rooted : (k : ℕ) (path : Path) → is_open_number k path ≡ true → IsRooted path → IsRooted (outside_of k path)
outside-Rooted k [] o r = absurd r
outside-Rooted k (f ∷ []) o r = absurd (true≢false (sym o ∙ shut-number k f r))
  where
    shut-number : (k : ℕ) (f : Frame) → f.is_open ≡ false → is_open_number k (f ∷ []) ≡ false
    shut-number k f n = rw n refl
outside-Rooted k (f ∷ g ∷ path) o r =
    cond_both (f.number == k) (g ∷ path) (outside_of k (g ∷ path)) IsRooted (λ _. r)
    (λ n. outside-Rooted k (g ∷ path) (open-further k f (g ∷ path) n o) r)
  where
    open-further : (k : ℕ) (f : Frame) (path : Path) → (f.number == k) ≡ false → is_open_number k (f ∷ path) ≡ true → is_open_number k path ≡ true
    open-further k f path n o = elim (cases_Bool f.is_open) [
      | inl y ↦ (
          let e : ((f.number == k) || is_open_number k path) ≡ true = rw y at o in
          or_right_of (f.number == k) (is_open_number k path) n e)
      | inr m ↦ (let e : is_open_number k path ≡ true = rw m at o in e)
    ]

-- each is found by its number
abbrev IsAmong : List Frame → Frame → Type 0
IsAmong fs f = within (has_number f.number) no_frame fs ≡ true

each-among : (fs : List Frame) → Each (IsAmong fs) fs
each-among [] = tt
each-among (f ∷ fs) = (
  or_left (f.number == f.number) (within (has_number f.number) no_frame fs) (same_number f.number),
  each-weaken (IsAmong fs) (IsAmong (f ∷ fs)) fs (λ g o. or_right (f.number == g.number) (within (has_number g.number) no_frame fs) o) (each-among fs),
)

outermost-of : (P : Frame → Type 0) (test : Tag → Bool) (k : ℕ) (found : Option Frame) (fs : List Frame) → Each P fs → IfSome P found → IfSome P (outermost test k found fs)
outermost-of P test k found [] h o = tt
outermost-of P test k found (f ∷ fs) h o =
    cond_both (f.number == k) found (outermost test k (if test f.tag then Some f else found) fs) (IfSome P) (λ _. o)
    (λ _. outermost-of P test k (if test f.tag then Some f else found) fs h.1 (cond_both (test f.tag) (Some f) found (IfSome P) (λ _. h.0) (λ _. o)))

furthest-open : (k : ℕ) (b : Builder) → IfSome (IsAmong (elements b.path)) (furthest_block k b)
furthest-open k b = outermost-of (IsAmong (elements b.path)) (is_special b.flags.counts_search) k None (elements b.path) (each-among (elements b.path)) tt

abbrev SteadyBy : Outcome → Type 0
SteadyBy (Done b) = IsSteady b
SteadyBy (Again b) = IsSteady b

either-by : (v : Bool) (x y : Outcome) → SteadyBy x → SteadyBy y → SteadyBy (if v then x else y)
either-by v x y h k = cond_both v x y SteadyBy (λ _. h) (λ _. k)

adopted-steady : (b : Builder) (own : Listed) (block : Frame) (clones : Clones) (outer : Path) → IsPlain own.tag → AreFormatting clones.entries → IsRooted outer → IsSteady b →
    SteadyBy (adopted b own block clones outer)
adopted-steady b own block clones outer p e o r =
    let front : Path = outermost_at (place_in b.is_fostering outer) (record block { children = no_nodes; waiting = no_nodes; place = here } ∷ clones.frames) in
    let again : IsRooted (readopted (place_in b.is_fostering outer) block own clones outer) =
    under-Rooted (record (new_frame clones.next own.tag here) { children = block.children; waiting = block.waiting }) (front ++ outer) (append-Rooted front outer o) in (
      append-Rooted (moved_into block.number clones.next (inside_of block.number b.path)) (readopted (place_in b.is_fostering outer) block own clones outer) again,
      r.1,
      r.2,
      moved-formatting own.number clones.next own.tag clones.frames clones.entries p e,
    )

with_block-steady : (b : Builder) (own : Listed) (block : Option Frame) → IsPlain own.tag → IfSome (IsAmong (elements b.path)) block → IsSteady b → SteadyBy (with_block b own block)
with_block-steady b own None p a r =
    let c = Y.through (has_number own.number) b r in (c.0, c.1, c.2, unlisted-formatting own.number b.active r.3)
with_block-steady b own (Some block) p a r =
    let outside : Path = outside_of block.number b.path in
    adopted-steady b own block
    (cloned 0 (elements (inside_of own.number outside)) b.active b.next)
    (settled_to (first (elements (outside_of own.number b.path))) outside)
    p
    (cloned-formatting 0 (elements (inside_of own.number outside)) b.active b.next r.3)
    (settled_while-Rooted _ outside outside (outside-Rooted block.number b.path a r.0))
    r

pub other_end-steady : (name : List ℕ) (b : Builder) → IsSteady b → IsSteady (any_other_end_tag name b)
other_end-steady name b r =
    cond_both (within (has_tag (is_named name)) (has_tag (is_special b.flags.counts_search)) (elements b.path)) (close_except_for (is_named name) (is_named name) b) b IsSteady
    (λ _. Y.closed (is_named name) (is_named name) b r) (λ _. r)

with_formatting-steady : (name : List ℕ) (b : Builder) (own : Option Listed) → IfSome (λ (x : Listed). IsPlain x.tag) own → IsSteady b → SteadyBy (with_formatting name b own)
with_formatting-steady name b None p r = other_end-steady name b r
with_formatting-steady name b (Some own) p r =
    either-by (not (is_open_number own.number b.path)) (Done (record b { active = unlisted own.number b.active })) _
    (unlisted-steady own.number b r)
    (either-by (not (within (has_number own.number) (has_tag is_scope) (elements b.path))) (Done b) (with_block b own (furthest_block own.number b))
    r (with_block-steady b own (furthest_block own.number b) p (furthest-open own.number b) r))

round-steady : (name : List ℕ) (b : Builder) → IsSteady b → SteadyBy (adoption_round name b)
round-steady name b r = with_formatting-steady name b (listed name b.active) (listed-plain name b.active r.3) r

rounds-steady : (n : ℕ) (name : List ℕ) (o : Outcome) → SteadyBy o → IsSteady (repeated n (adoption_round name) o)
rounds-steady n name (Done b) r = r
rounds-steady zero name (Again b) r = r
rounds-steady (suc n) name (Again b) r = rounds-steady n name (adoption_round name b) (round-steady name b r)

pub agency-steady : (name : List ℕ) (b : Builder) → IsSteady b → IsSteady (adoption_agency name b)
agency-steady name b r =
    cond_both (is_named name (current_node b).tag && not (is_listed (current_node b).number b.active)) (pop_current_node b) (repeated 8 (adoption_round name) (Again b)) IsSteady
    (λ _. Y.popped b r) (λ _. rounds-steady 8 name (Again b) r)

-- before the first token

pub page-steady : (flags : Flags) → IsSteady (page_start flags)
page-steady flags = (refl, refl, tt, tt)

pub fragment-steady : (flags : Flags) (context : Context) → IsSteady (fragment_start flags context)
fragment-steady flags context =
    (refl, refl, cond_both (is_template context.tag) (in_template ∷ []) [] AreTemplateModes (λ _. (refl, tt)) (λ _. tt), tt)
