-- The adoption agency keeps what holds of a builder.
use Rattle.std.proofs.Common.{◌≡◌, ℕ, suc, ◌==◌, Bool, true, false, not, ◌||◌, ◌&&◌, List, [], ◌∷◌, ◌++◌, Option, Some, None, sym, true≢false, arith, if◌then◌else◌}
use Rattle.std.specs.Prelude.{nat_lt}
use Rattle.std.specs.Str.{bytes_eq}
use Rattle.std.proofs.lemmas.Bool.{cond_both, or_left, or_right}
use Rattle.std.proofs.lemmas.Bool.Decides.{nat_tests}
use Rattle.tl_dom_spec.specs.Tags.{Tag, is_named, is_scope, is_special}
use Rattle.tl_dom_spec.specs.Path.{Frame, Path, Place, elements, has_number, has_tag, here, is_open_number, new_frame, no_nodes, place_in, within}
use Rattle.tl_dom_spec.specs.Builder.{Again, Builder, Done, Entry, close_except_for, current_node, formatting, marker, pop_current_node, repeated}
use Rattle.tl_dom_spec.specs.Formatting.{Listed, is_entry, is_listed, listed, listed_behind, relisted, unlisted}
use Rattle.tl_dom_spec.specs.Adoption.{Clones, adopted, adoption_agency, adoption_round, any_other_end_tag, cloned, entry_moved, first, furthest_block, inside_of, moved_into, outermost, outermost_at, outside_of, readopted, settled_to, with_block, with_formatting}
use Rattle.tl_dom_spec.proofs.Allowed.{Allowed, Each, IfSome}
use Rattle.tl_dom_spec.proofs.Paths.{Frames, Inner, Tagged, open_opens, popped_through-Frames, settled_while-Frames, tagged_opens}
use Rattle.tl_dom_spec.proofs.Builders.{Entered, Entries, Holds, HoldsAfter, close-Holds, either, either-after, pop-Holds, repeated-Holds}

-- whether a frame has the number
has_in : ℕ → Path → Bool
has_in k [] = false
has_in k (f ∷ path) = (f.number == k) || has_in k path

pub same_number : (k : ℕ) → (k == k) ≡ true
same_number k = grind (arith, nat_tests)

pub each-weaken : {X : Type 0} → (P Q : X → Type 0) (xs : List X) → ((x : X) → P x → Q x) → Each P xs → Each Q xs
each-weaken P Q [] w h = tt
each-weaken P Q (x ∷ xs) w h = (w x h.0, each-weaken P Q xs w h.1)

module _ (R : Allowed) where
  -- frames that may stand anywhere
  abbrev Whole : Frame → Type 0
  Whole f = Inner R f × R.Opens f.tag

  whole-append : (front path : Path) → Each Whole front → Frames R path → Frames R (front ++ path)
  whole-append [] path h k = k
  whole-append (f ∷ front) path h k = (h.0.0, tagged_opens R f (front ++ path) h.0.1, whole-append front path h.1 k)

  -- open frames, which are in the path by their numbers
  abbrev OpenIn : Path → Frame → Type 0
  OpenIn path f = Whole f × (has_in f.number path ≡ true)

  elements-open : (path : Path) → Frames R path → Each (OpenIn path) (elements path)
  unfolding has_in
  elements-open [] h = tt
  elements-open (f ∷ path) h =
      let more : Each (OpenIn (f ∷ path)) (elements path) =
      each-weaken (OpenIn path) (OpenIn (f ∷ path)) (elements path) (λ g o. (o.0, or_right (f.number == g.number) (has_in g.number path) o.1)) (elements-open path h.2) in
      cond_both f.is_open (f ∷ elements path) (elements path) (Each (OpenIn (f ∷ path)))
      (λ o. (((h.0, open_opens R f path h.1 o), or_left (f.number == f.number) (has_in f.number path) (same_number f.number)), more))
      (λ _. more)

  outermost-of : (P : Frame → Type 0) (test : Tag → Bool) (k : ℕ) (found : Option Frame) (fs : List Frame) → Each P fs → IfSome P found → IfSome P (outermost test k found fs)
  outermost-of P test k found [] h o = tt
  outermost-of P test k found (f ∷ fs) h o =
      cond_both (f.number == k) found (outermost test k (if test f.tag then Some f else found) fs) (IfSome P) (λ _. o)
      (λ _. outermost-of P test k (if test f.tag then Some f else found) fs h.1 (cond_both (test f.tag) (Some f) found (IfSome P) (λ _. h.0) (λ _. o)))

  tagged-whole : (k : ℕ) (f : Frame) (path : Path) → has_in k path ≡ true → Tagged R f path → R.Opens f.tag
  unfolding has_in
  tagged-whole k f [] e t = absurd (true≢false (sym e))
  tagged-whole k f (g ∷ path) e t = t

  has-further : (x y : Bool) → (x || y) ≡ true → x ≡ false → y ≡ true
  has-further true y e n = absurd (true≢false n)
  has-further false y e n = e

  -- what is inside of a frame of the path
  inside-whole : (k : ℕ) (path : Path) → has_in k path ≡ true → Frames R path → Each Whole (inside_of k path)
  unfolding has_in
  inside-whole k [] e h = tt
  inside-whole k (f ∷ path) e h =
      cond_both (f.number == k) [] (f ∷ inside_of k path) (Each Whole) (λ _. tt)
      (λ n. let more : has_in k path ≡ true = has-further (f.number == k) (has_in k path) e n in
      ((h.0, tagged-whole k f path more h.1), inside-whole k path more h.2))

  outside-Frames : (k : ℕ) (path : Path) → Frames R path → Frames R (outside_of k path)
  outside-Frames k [] h = tt
  outside-Frames k (f ∷ path) h = cond_both (f.number == k) path (outside_of k path) (Frames R) (λ _. h.2) (λ _. outside-Frames k path h.2)

  -- open ones alone, inside of a frame or all
  abbrev OpenOpens : Frame → Type 0
  OpenOpens f = f.is_open ≡ true → R.Opens f.tag

  abbrev IsTagged : Frame → Type 0
  IsTagged f = R.Opens f.tag

  inside-open : (k : ℕ) (path : Path) → Frames R path → Each OpenOpens (inside_of k path)
  inside-open k [] h = tt
  inside-open k (f ∷ path) h =
      cond_both (f.number == k) [] (f ∷ inside_of k path) (Each OpenOpens) (λ _. tt) (λ _. (open_opens R f path h.1, inside-open k path h.2))

  elements-opens : (path : Path) → Each OpenOpens path → Each IsTagged (elements path)
  elements-opens [] h = tt
  elements-opens (f ∷ path) h =
      cond_both f.is_open (f ∷ elements path) (elements path) (Each IsTagged) (λ o. (h.0 o, elements-opens path h.1)) (λ _. elements-opens path h.1)

  -- entries

  unlisted-Entries : (k : ℕ) (entries : List Entry) → Entries R entries → Entries R (unlisted k entries)
  unlisted-Entries k [] h = tt
  unlisted-Entries k (entry ∷ entries) h =
      cond_both (is_entry k entry) (unlisted k entries) (entry ∷ unlisted k entries) (Entries R) (λ _. unlisted-Entries k entries h.1) (λ _. (h.0, unlisted-Entries k entries h.1))

  relisted-Entries : (k new : ℕ) (entries : List Entry) → Entries R entries → Entries R (relisted k new entries)
  relisted-Entries k new [] h = tt
  relisted-Entries k new (marker ∷ entries) h = (tt, relisted-Entries k new entries h.1)
  relisted-Entries k new (formatting n tag ∷ entries) h = (h.0, relisted-Entries k new entries h.1)

  behind-Entries : (k : ℕ) (new : Entry) (entries : List Entry) → Entered R new → Entries R entries → Entries R (listed_behind k new entries)
  behind-Entries k new [] n h = tt
  behind-Entries k new (entry ∷ entries) n h =
      cond_both (is_entry k entry) (new ∷ entry ∷ entries) (entry ∷ listed_behind k new entries) (Entries R) (λ _. (n, h)) (λ _. (h.0, behind-Entries k new entries n h.1))

  listed-opens : (name : List ℕ) (entries : List Entry) → Entries R entries → IfSome (λ own. R.Opens own.tag) (listed name entries)
  listed-opens name [] h = tt
  listed-opens name (marker ∷ entries) h = tt
  listed-opens name (formatting k tag ∷ entries) h =
      cond_both (bytes_eq name tag.name) (Some (record { number = k; tag = tag })) (listed name entries) (IfSome (λ own. R.Opens own.tag)) (λ _. h.0) (λ _. listed-opens name entries h.1)

  moved-Entries : (k new : ℕ) (tag : Tag) (clones : Path) (entries : List Entry) → R.Opens tag → Entries R entries → Entries R (entry_moved k new tag clones entries)
  moved-Entries k new tag [] entries o h = relisted-Entries k new entries h
  moved-Entries k new tag (clone ∷ clones) entries o h = behind-Entries clone.number (formatting new tag) (unlisted k entries) o (unlisted-Entries k entries h)

  -- clones

  abbrev AreClones : Clones → Type 0
  AreClones c = Each Whole c.frames × Entries R c.entries

  cloned-are : (count : ℕ) (fs : List Frame) (entries : List Entry) (next : ℕ) → Each IsTagged fs → Entries R entries → AreClones (cloned count fs entries next)
  cloned-are count [] entries next h e = (tt, e)
  cloned-are count (f ∷ fs) entries next h e =
      elim (is_listed f.number entries) as (λ v. AreClones (elim v as (λ _. Clones) [
        | false ↦ cloned (suc count) fs entries next
        | true ↦ elim (nat_lt 2 count) as (λ _. Clones) [
          | true ↦ cloned (suc count) fs (unlisted f.number entries) next
          | false ↦ (let r = cloned (suc count) fs (relisted f.number next entries) (suc next) in
              record r { frames = new_frame next f.tag here ∷ r.frames })
        ]
      ])) [
        | false ↦ cloned-are (suc count) fs entries next h.1 e
        | true ↦ elim (nat_lt 2 count) as (λ w. AreClones (elim w as (λ _. Clones) [
          | true ↦ cloned (suc count) fs (unlisted f.number entries) next
          | false ↦ (let r = cloned (suc count) fs (relisted f.number next entries) (suc next) in
              record r { frames = new_frame next f.tag here ∷ r.frames })
        ])) [
          | true ↦ cloned-are (suc count) fs (unlisted f.number entries) next h.1 (unlisted-Entries f.number entries e)
          | false ↦ (let r = cloned-are (suc count) fs (relisted f.number next entries) (suc next) h.1 (relisted-Entries f.number next entries e) in
              ((((tt, tt), h.0), r.0), r.1))
        ]
      ]

  -- a round

  outermost_at-whole : (place : Place) (path : Path) → Each Whole path → Each Whole (outermost_at place path)
  outermost_at-whole place [] h = tt
  outermost_at-whole place (f ∷ []) h = h
  outermost_at-whole place (f ∷ g ∷ path) h = (h.0, outermost_at-whole place (g ∷ path) h.1)

  moved-whole : (block new : ℕ) (path : Path) → Each Whole path → Each Whole (moved_into block new path)
  moved-whole block new [] h = tt
  moved-whole block new (f ∷ path) h = (h.0, moved-whole block new path h.1)

  readopted-Frames : (place : Place) (block : Frame) (own : Listed) (clones : Clones) (outer : Path) →
      Whole block → R.Opens own.tag → Each Whole clones.frames → Frames R outer → Frames R (readopted place block own clones outer)
  readopted-Frames place block own clones outer w o c h =
      let front : Path = record block { children = no_nodes; waiting = no_nodes; place = here } ∷ clones.frames in
      let behind = whole-append (outermost_at place front) outer (outermost_at-whole place front (((tt, tt), w.1), c)) h in
      (w.0, tagged_opens R (new_frame clones.next own.tag here) (outermost_at place front ++ outer) o, behind)

  adopted-Holds : (b : Builder) (own : Listed) (block : Frame) (clones : Clones) (outer : Path) →
      Holds R b → OpenIn b.path block → R.Opens own.tag → AreClones clones → Frames R outer → HoldsAfter R (adopted b own block clones outer)
  adopted-Holds b own block clones outer h w o c k =
      let inside = inside-whole block.number b.path w.1 h.0 in (
        whole-append (moved_into block.number clones.next (inside_of block.number b.path)) (readopted (place_in b.is_fostering outer) block own clones outer)
            (moved-whole block.number clones.next (inside_of block.number b.path) inside)
            (readopted-Frames (place_in b.is_fostering outer) block own clones outer w.0 o c.0 k),
        moved-Entries own.number clones.next own.tag clones.frames clones.entries o c.1,
        h.2,
        h.3,
      )

  with_block-Holds : (b : Builder) (own : Listed) (block : Option Frame) → Holds R b → R.Opens own.tag → IfSome (OpenIn b.path) block → HoldsAfter R (with_block b own block)
  with_block-Holds b own None h o w = (popped_through-Frames R _ b.path h.0, unlisted-Entries own.number b.active h.1, h.2, h.3)
  with_block-Holds b own (Some block) h o w =
      let outside = outside-Frames block.number b.path h.0 in
      let between = elements-opens (inside_of own.number (outside_of block.number b.path)) (inside-open own.number (outside_of block.number b.path) outside) in
      adopted-Holds b own block
      (cloned 0 (elements (inside_of own.number (outside_of block.number b.path))) b.active b.next)
      (settled_to (first (elements (outside_of own.number b.path))) (outside_of block.number b.path))
      h w o
      (cloned-are 0 (elements (inside_of own.number (outside_of block.number b.path))) b.active b.next between h.1)
      (settled_while-Frames R _ (outside_of block.number b.path) (outside_of block.number b.path) outside)

  furthest-open : (k : ℕ) (b : Builder) → Holds R b → IfSome (OpenIn b.path) (furthest_block k b)
  furthest-open k b h = outermost-of (OpenIn b.path) (is_special b.flags.counts_search) k None (elements b.path) (elements-open b.path h.0) tt

  pub other_end-Holds : (name : List ℕ) (b : Builder) → Holds R b → Holds R (any_other_end_tag name b)
  other_end-Holds name b h =
      either R (within (has_tag (is_named name)) (has_tag (is_special b.flags.counts_search)) (elements b.path)) (close_except_for (is_named name) (is_named name) b) b
      (close-Holds R (is_named name) (is_named name) b h) h

  with_formatting-Holds : (name : List ℕ) (b : Builder) (own : Option Listed) → Holds R b → IfSome (λ x. R.Opens x.tag) own → HoldsAfter R (with_formatting name b own)
  with_formatting-Holds name b None h o = other_end-Holds name b h
  with_formatting-Holds name b (Some own) h o =
      either-after R (not (is_open_number own.number b.path)) (Done (record b { active = unlisted own.number b.active })) _
      (h.0, unlisted-Entries own.number b.active h.1, h.2, h.3)
      (either-after R (not (within (has_number own.number) (has_tag is_scope) (elements b.path))) (Done b) (with_block b own (furthest_block own.number b))
      h (with_block-Holds b own (furthest_block own.number b) h o (furthest-open own.number b h)))

  round-Holds : (name : List ℕ) (b : Builder) → Holds R b → HoldsAfter R (adoption_round name b)
  round-Holds name b h = with_formatting-Holds name b (listed name b.active) h (listed-opens name b.active h.1)

  pub agency-Holds : (name : List ℕ) (b : Builder) → Holds R b → Holds R (adoption_agency name b)
  agency-Holds name b h =
      either R (is_named name (current_node b).tag && not (is_listed (current_node b).number b.active)) (pop_current_node b) (repeated 8 (adoption_round name) (Again b))
      (pop-Holds R b h) (repeated-Holds R 8 (adoption_round name) (Again b) (round-Holds name) h)

  pub unlisted-Holds : (k : ℕ) (b : Builder) → Holds R b → Holds R (record b { active = unlisted k b.active })
  unlisted-Holds k b h = (h.0, unlisted-Entries k b.active h.1, h.2, h.3)
