-- The adoption agency keeps what holds of a builder.
use Rattle.std.proofs.Common.{Bool, List, None, Option, Some, [], ap, arith, codes, false, if◌then◌else◌, inl, inr, not, refl, subst, suc, sym, true, true≢false, zero, ℕ, ◌&&◌, ◌++◌, ◌<◌, ◌==◌, ◌||◌, ◌∙◌, ◌∷◌, ◌≡◌, ◌≤◌, ◌⊎◌}
use Rattle.std.specs.Prelude.{nat_lt}
use Rattle.std.specs.List.{list_any}
use Rattle.std.proofs.lemmas.Bool.{and_parts, and_right, cases_Bool, cond_both}
use Rattle.std.proofs.lemmas.Bool.Decides.{nat_tests}
use Rattle.tl_html_spec.specs.Balanced.{is_one_of, words}
use Rattle.tl_dom_spec.specs.Tags.{Namespace, Tag, by_space, html_space, is_html, is_implied, is_math_mark, is_named, is_scope, is_special, is_special_name, is_svg_mark, math_space, scope_names, svg_space}
use Rattle.tl_dom_spec.specs.Path.{Frame, Path, Place, behind, elements, has_number, has_tag, here, into, into_head, is_open_number, new_frame, no_nodes, place_in, within}
use Rattle.tl_dom_spec.specs.Builder.{Again, Builder, Done, Entry, Mode, Outcome, close_except_for, current_node, formatting, marker, pop_current_node, repeated}
use Rattle.tl_dom_spec.specs.Formatting.{Listed, is_entry, is_listed, listed, relisted, unlisted}
use Rattle.tl_dom_spec.specs.Adoption.{Clones, adopted, adoption_agency, adoption_round, any_other_end_tag, cloned, first, furthest_block, inside_of, moved_into, moved_place, outermost, outermost_at, outside_of, settled_to, with_block, with_formatting}
use Rattle.tl_dom_spec.specs.Lawful.{IsIn}
use Rattle.tl_dom_spec.proofs.Allowed.{Each}
use Rattle.tl_dom_spec.proofs.Words.{any_word}
use Rattle.tl_dom_spec.proofs.SeatedPaths.{Loose, Placed, Seated, Sought, Tagged, Unbarred, Wider, bodied, cell, found, high, inside, past, place_in-Placed, popped_through-Seated, popped_to-Sought, rooted, search-Sought, settled_while-Seated, unsought, wider-Seated, wider-loose}
use Rattle.tl_dom_spec.proofs.SeatedBuilders.{Bounds, Deep, IfSome, IsForm, IsFree, Kept, NoBar, close-Deep, each_in, free_bar, free_plain, listed-kept, moved-kept, number_above, plain-Tagged, pop-Deep, relisted-kept, stops_at, unlisted-kept, with_active}
use Rattle.tl_dom_spec.proofs.Adopting.{each-weaken}

abbrev at_number_is : ℕ → ℕ → Tag → Bool
at_number_is k n t = n == k

same_number : (k : ℕ) → (k == k) ≡ true
same_number k = grind (arith, nat_tests)

number_is : (j k : ℕ) → (j == k) ≡ true → j ≡ k
number_is j k e = grind (arith, nat_tests)

module _ (S L : List ℕ) (N : ℕ) (ok : Bool) where
  -- the first frame of a number
  data First (j : ℕ) : ℕ → ℕ → Tag → Path → Type 0 where
    at : {low m : ℕ} {tg : Tag} (f : Frame) (path : Path) → Loose S L N ok low f → (f.number == j) ≡ true → Seated S L N ok low m tg path → First j low m tg (f ∷ path)
    after : {low m : ℕ} {tg : Tag} (f : Frame) (path : Path) → Loose S L N ok low f → (f.number == j) ≡ false → First j low m tg path → First j low m tg (f ∷ path)

  first_of : (j : ℕ) {low m : ℕ} {tg : Tag} {path : Path} → Sought S L N ok (at_number_is j) low m tg path → First j low m tg path
  first_of j (found f p l o e s) = at f p l e s
  first_of j (past f p l s) =
      elim (cases_Bool (f.number == j)) [
        | inl y ↦ at f p l y (unsought S L N ok s)
        | inr n ↦ after f p l n (first_of j s)
      ]

  -- a frame of one number stands further in than the first one of another number
  data Between (k j : ℕ) : ℕ → ℕ → Tag → Path → Type 0 where
    nearer : {low m : ℕ} {tg : Tag} (f : Frame) (path : Path) → Loose S L N ok low f → f.number ≡ k → (f.number == j) ≡ false → First j low m tg path → Between k j low m tg (f ∷ path)
    later : {low m : ℕ} {tg : Tag} (f : Frame) (path : Path) → Loose S L N ok low f → (f.number == j) ≡ false → Between k j low m tg path → Between k j low m tg (f ∷ path)

  between_first : {k j low m : ℕ} {tg : Tag} {path : Path} → Between k j low m tg path → First j low m tg path
  between_first (nearer f p l e n s) = after f p l n s
  between_first (later f p l n s) = after f p l n (between_first s)

  inside-loose : {k j low m : ℕ} {tg : Tag} {path : Path} → Between k j low m tg path → Each (Loose S L N ok low) (inside_of k path)
  inside-loose {k} {low} (nearer f p l e n s) =
      cond_both (f.number == k) [] (f ∷ inside_of k p) (Each (Loose S L N ok low)) (λ _. tt)
      (λ x. absurd (true≢false (sym (ap (λ y. y == k) e ∙ same_number k) ∙ x)))
  inside-loose {k} {low} (later f p l n s) =
      cond_both (f.number == k) [] (f ∷ inside_of k p) (Each (Loose S L N ok low)) (λ _. tt) (λ _. (l, inside-loose s))

  outside-First : {k j low m : ℕ} {tg : Tag} {path : Path} → Between k j low m tg path → First j low m tg (outside_of k path)
  outside-First {k} {j} {low} {m} {tg} (nearer f p l e n s) =
      subst (First j low m tg) (sym (ap (λ (x : Bool). if x then p else outside_of k p) (ap (λ y. y == k) e ∙ same_number k))) s
  outside-First {k} {j} {low} {m} {tg} (later f p l n s) =
      cond_both (f.number == k) p (outside_of k p) (First j low m tg) (λ _. between_first s) (λ _. outside-First s)

  outside-same : {k j low m : ℕ} {tg : Tag} {path : Path} → Between k j low m tg path → outside_of j (outside_of k path) ≡ outside_of j path
  outside-same {k} {j} (nearer f p l e n s) =
      ap (outside_of j) (ap (λ (x : Bool). if x then p else outside_of k p) (ap (λ y. y == k) e ∙ same_number k))
      ∙ sym (ap (λ (x : Bool). if x then p else outside_of j p) n)
  outside-same {k} {j} (later f p l n s) =
      cond_both (f.number == k) p (outside_of k p) (λ x. outside_of j x ≡ (if f.number == j then p else outside_of j p))
      (λ _. sym (ap (λ (x : Bool). if x then p else outside_of j p) n))
      (λ _. outside-same s ∙ sym (ap (λ (x : Bool). if x then p else outside_of j p) n))

  -- the furthest block
  abbrev Further : ℕ → ℕ → ℕ → Tag → Path → Frame → Type 0
  Further j low m tg whole f = Between f.number j low m tg whole × Loose S L N ok low f

  outermost-further : (whole : Path) (test : Tag → Bool) (j : ℕ) {low m : ℕ} {tg : Tag} {path : Path} (prior : Option Frame) → IsIn j L →
      ((k : ℕ) → Between k j low m tg path → Between k j low m tg whole) → IfSome (Further j low m tg whole) prior → First j low m tg path →
      IfSome (Further j low m tg whole) (outermost test j prior (elements path))
  outermost-further whole test j {low} {m} {tg} prior i w g (at f p l e s) =
      subst (λ x. IfSome (Further j low m tg whole) (outermost test j prior x)) (sym (ap (λ (x : Bool). if x then f ∷ elements p else elements p) (l.still (subst (λ x. IsIn x L) (sym (number_is f.number j e)) i))))
      (subst (IfSome (Further j low m tg whole)) (sym (ap (λ (x : Bool). if x then prior else outermost test j (if test f.tag then Some f else prior) (elements p)) e)) g)
  outermost-further whole test j {low} {m} {tg} prior i w g (after f p l n s) =
      let further : (k : ℕ) → Between k j low m tg p → Between k j low m tg whole = λ k y. w k (later f p l n y) in
      cond_both f.is_open (f ∷ elements p) (elements p) (λ fs. IfSome (Further j low m tg whole) (outermost test j prior fs))
      (λ _. cond_both (f.number == j) prior (outermost test j (if test f.tag then Some f else prior) (elements p)) (IfSome (Further j low m tg whole)) (λ _. g)
      (λ _. outermost-further whole test j (if test f.tag then Some f else prior) i further
      (cond_both (test f.tag) (Some f) prior (IfSome (Further j low m tg whole)) (λ _. (w f.number (nearer f p l refl n s), l)) (λ _. g)) s))
      (λ _. outermost-further whole test j prior i further g s)

  -- the element around it
  abbrev Ancestor : ℕ → ℕ → Tag → Path → Type 0
  Ancestor low m tg path = (a : Frame) × (first (elements path) ≡ Some a) × ((m ≡ a.number) ⊎ Sought S L N ok (at_number_is a.number) low m tg path)

  first_open : (f : Frame) (path : Path) → f.is_open ≡ true → first (elements (f ∷ path)) ≡ Some f
  first_open f path e = ap (λ (x : Bool). first (if x then f ∷ elements path else elements path)) e

  ancestor_of : {low m : ℕ} {tg : Tag} {path : Path} → Seated S L N ok low m tg path → Ancestor low m tg path
  ancestor_of (high t rest b i r) = (t, first_open t rest b.open_still, inl (sym b.number))
  ancestor_of (bodied g h d b p i r a w e) = (g, first_open g (h ∷ d ∷ []) b.open_still, inl (sym b.number))
  ancestor_of (rooted h d r e n b) = (h, first_open h (d ∷ []) r.open_still, inl (sym r.number))
  ancestor_of (cell f p b l i s) = (f, first_open f p b.open_still, inl (sym b.number))
  ancestor_of (inside f p l s) =
      elim (cases_Bool f.is_open) [
        | inl o ↦ (f, first_open f p o, inr (found f p l o (same_number f.number) s))
        | inr n ↦ (let a = ancestor_of s in
            (a.0, ap (λ (x : Bool). first (if x then f ∷ elements p else elements p)) n ∙ a.1, elim a.2 [ inl e ↦ inl e | inr t ↦ inr (past f p l t) ]))
      ]

  -- up to which all is settled
  abbrev Settles : ℕ → ℕ → ℕ → Tag → Path → Type 0
  Settles j low m tg path = (a : Frame) × (first (elements (outside_of j path)) ≡ Some a) × ((m ≡ a.number) ⊎ Sought S L N ok (at_number_is a.number) low m tg path)

  settles_to : (j : ℕ) {low m : ℕ} {tg : Tag} {path : Path} → First j low m tg path → Settles j low m tg path
  settles_to j (at f p l e s) =
      let a = ancestor_of s in
      (a.0, ap (λ x. first (elements x)) (ap (λ (x : Bool). if x then p else outside_of j p) e) ∙ a.1, elim a.2 [ inl y ↦ inl y | inr t ↦ inr (past f p l t) ])
  settles_to j (after f p l n s) =
      let a = settles_to j s in
      (a.0, ap (λ x. first (elements x)) (ap (λ (x : Bool). if x then p else outside_of j p) n) ∙ a.1, elim a.2 [ inl y ↦ inl y | inr t ↦ inr (past f p l t) ])

  first_seated : {j low m : ℕ} {tg : Tag} {path : Path} → First j low m tg path → Seated S L N ok low m tg path
  first_seated (at f p l e s) = inside f p l s
  first_seated (after f p l n s) = inside f p l (first_seated s)

  settled_to-Seated : {low m : ℕ} {tg : Tag} (j : ℕ) (path : Path) → First j low m tg path → Seated S L N ok low m tg (settled_to (first (elements (outside_of j path))) path)
  settled_to-Seated {low} {m} {tg} j path s =
      let a = settles_to j s in
      subst (λ x. Seated S L N ok low m tg (settled_to x path)) (sym a.1)
      (elim a.2 [
        | inl e ↦ settled_while-Seated S L N ok (λ n t. not (n == a.0.number)) path path (ap (λ x. not (x == a.0.number)) e ∙ ap not (same_number a.0.number)) (first_seated s)
        | inr t ↦ unsought S L N ok (popped_to-Sought S L N ok (at_number_is a.0.number) path t)
      ])

append-Seated : {low m : ℕ} {tg : Tag} (S L : List ℕ) (N : ℕ) (ok : Bool) (ahead path : Path) → Each (Loose S L N ok low) ahead → Seated S L N ok low m tg path → Seated S L N ok low m tg (ahead ++ path)
append-Seated S L N ok [] path h s = s
append-Seated S L N ok (f ∷ ahead) path h s = inside f (ahead ++ path) h.0 (append-Seated S L N ok ahead path h.1 s)

-- clones

record IsClone (low : ℕ) (ok : Bool) (N : ℕ) (f : Frame) : Type 0 where
  pub above : 2 < f.number
  pub below : f.number < N
  pub place : f.place ≡ here
  pub tag : Tagged low ok f.tag
  pub bars : Unbarred f.tag
  pub open_still : f.is_open ≡ true

-- what was before, of numbers below N
record Grown (N : ℕ) (S L T M : List ℕ) : Type 0 where
  pub numbers : (k : ℕ) → k < N → IsIn k T → IsIn k S
  pub listed : (k : ℕ) → k < N → IsIn k M → IsIn k L
  pub all_numbers : (k : ℕ) → IsIn k S → IsIn k T
  pub all_listed : (k : ℕ) → IsIn k L → IsIn k M

record Made (low : ℕ) (ok : Bool) (N : ℕ) (S L : List ℕ) (c : Clones) : Type 0 where
  pub T : List ℕ
  pub M : List ℕ
  pub grown : Grown N S L T M
  pub more : N ≤ c.next
  pub frames : Each (IsClone low ok c.next) c.frames
  pub entries : Each (Kept T M) c.entries
  pub numbers : Each (λ k. (2 < k) × (k < c.next)) T
  pub listed : Each (λ k. k < c.next) M

-- a frame that may be made anew
abbrev Copied : ℕ → Bool → ℕ → List ℕ → Frame → Type 0
Copied low ok N S f = (f.number < N) × (IsIn f.number S → Unbarred f.tag) × Tagged low ok f.tag

kept_more : (S L T M : List ℕ) (e : Entry) → ((k : ℕ) → IsIn k S → IsIn k T) → ((k : ℕ) → IsIn k L → IsIn k M) → Kept S L e → Kept T M e
kept_more S L T M marker w v h = tt
kept_more S L T M (formatting k tag) w v h = ((w k h.0.0, v k h.0.1), h.1)

entry_in : (S L : List ℕ) (k : ℕ) (entries : List Entry) → is_listed k entries ≡ true → Each (Kept S L) entries → IsIn k S
entry_in S L k [] e h = absurd (true≢false (sym e))
entry_in S L k (marker ∷ entries) e h = entry_in S L k entries e h.1
entry_in S L k (formatting n tag ∷ entries) e h =
    elim (cases_Bool (n == k)) [
      | inl y ↦ subst (λ x. IsIn x S) (number_is n k y) h.0.0.0
      | inr x ↦ entry_in S L k entries (sym (ap (λ v. v || list_any (is_entry k) entries) x) ∙ e) h.1
    ]

made_here : (low : ℕ) (ok : Bool) (N : ℕ) (S L : List ℕ) (entries : List Entry) → Each (Kept S L) entries → Each (λ k. (2 < k) × (k < N)) S → Each (λ k. k < N) L →
    Made low ok N S L (record { frames = []; entries = entries; next = N })
made_here low ok N S L entries e n l = record {
  T = S;
  M = L;
  grown = record { numbers = λ k x i. i; listed = λ k x i. i; all_numbers = λ k i. i; all_listed = λ k i. i };
  more = omega arith;
  frames = tt;
  entries = e;
  numbers = n;
  listed = l;
}

-- a clone of its own number, before those that are made later
made_more : (low : ℕ) (ok : Bool) (N : ℕ) (S L : List ℕ) (tag : Tag) (r : Clones) → 2 < N → Tagged low ok tag → Unbarred tag →
    Made low ok (suc N) (N ∷ S) (N ∷ L) r → Made low ok N S L (record r { frames = new_frame N tag here ∷ r.frames })
made_more low ok N S L tag r a t b h = record {
  T = h.T;
  M = h.M;
  grown = record {
    numbers = λ k x i. elim (h.grown.numbers k (omega (arith, x)) i) [ inl e ↦ absurd (omega (arith, x, e)) | inr j ↦ j ];
    listed = λ k x i. elim (h.grown.listed k (omega (arith, x)) i) [ inl e ↦ absurd (omega (arith, x, e)) | inr j ↦ j ];
    all_numbers = λ k i. h.grown.all_numbers k (inr i);
    all_listed = λ k i. h.grown.all_listed k (inr i);
  };
  more = omega (arith, h.more);
  frames = (record { above = a; below = omega (arith, h.more); place = refl; tag = t; bars = b; open_still = refl }, h.frames);
  entries = h.entries;
  numbers = h.numbers;
  listed = h.listed;
}

cloned-made : (low : ℕ) (ok : Bool) (N : ℕ) (S L : List ℕ) (count : ℕ) (fs : List Frame) (entries : List Entry) → 2 < N → Each (Copied low ok N S) fs → Each (Kept S L) entries →
    Each (λ k. (2 < k) × (k < N)) S → Each (λ k. k < N) L → Made low ok N S L (cloned count fs entries N)
cloned-made low ok N S L count [] entries a c e n l = made_here low ok N S L entries e n l
cloned-made low ok N S L count (f ∷ fs) entries a c e n l =
    let r : Clones = cloned (suc count) fs (relisted f.number N entries) (suc N) in
    let clone : is_listed f.number entries ≡ true → Made low ok N S L (record r { frames = new_frame N f.tag here ∷ r.frames }) = λ y.
    made_more low ok N S L f.tag r a c.0.2 (c.0.1 (entry_in S L f.number entries y e))
    (cloned-made low ok (suc N) (N ∷ S) (N ∷ L) (suc count) fs (relisted f.number N entries) (omega (arith, a))
    (each-weaken (Copied low ok N S) (Copied low ok (suc N) (N ∷ S)) fs (λ x y. (omega (arith, y.0), (λ i. elim i [ inl z ↦ absurd (omega (arith, y.0, z)) | inr j ↦ y.1 j ]), y.2)) c.1)
    (relisted-kept (Kept (N ∷ S) (N ∷ L)) f.number N entries (λ j t h. ((inl refl, inl refl), h.1))
    (each-weaken (Kept S L) (Kept (N ∷ S) (N ∷ L)) entries (λ x h. kept_more S L (N ∷ S) (N ∷ L) x (λ k i. inr i) (λ k i. inr i) h) e))
    ((a, omega arith), each-weaken (λ k. (2 < k) × (k < N)) (λ k. (2 < k) × (k < suc N)) S (λ k x. (x.0, omega (arith, x.1))) n)
    (omega arith, each-weaken (λ k. k < N) (λ k. k < suc N) L (λ k x. omega (arith, x)) l)) in
    elim (cases_Bool (is_listed f.number entries)) [
      | inr x ↦ subst (Made low ok N S L) (sym (ap (λ v. elim v as (λ _. Clones) [
        | false ↦ cloned (suc count) fs entries N
        | true ↦ elim (nat_lt 2 count) as (λ _. Clones) [
          | true ↦ cloned (suc count) fs (unlisted f.number entries) N
          | false ↦ record r { frames = new_frame N f.tag here ∷ r.frames }
        ]
      ]) x)) (cloned-made low ok N S L (suc count) fs entries a c.1 e n l)
      | inl y ↦ subst (Made low ok N S L) (sym (ap (λ v. elim v as (λ _. Clones) [
        | false ↦ cloned (suc count) fs entries N
        | true ↦ elim (nat_lt 2 count) as (λ _. Clones) [
          | true ↦ cloned (suc count) fs (unlisted f.number entries) N
          | false ↦ record r { frames = new_frame N f.tag here ∷ r.frames }
        ]
      ]) y))
          (elim (nat_lt 2 count) as (λ w. Made low ok N S L (elim w as (λ _. Clones) [
            | true ↦ cloned (suc count) fs (unlisted f.number entries) N
            | false ↦ record r { frames = new_frame N f.tag here ∷ r.frames }
          ])) [
            | true ↦ cloned-made low ok N S L (suc count) fs (unlisted f.number entries) a c.1 (unlisted-kept (Kept S L) f.number entries e) n l
            | false ↦ clone y
          ])
    ]

-- a round

clone-loose : (S L : List ℕ) (low : ℕ) (ok : Bool) (N : ℕ) (f : Frame) → IsClone low ok N f → Loose S L N ok low f
clone-loose S L low ok N f c = record {
  above = c.above;
  below = c.below;
  place = subst (Placed low ok) (sym c.place) tt;
  tag = c.tag;
  bars = λ _. c.bars;
  still = λ _. c.open_still;
  shut = λ _. c.bars.1;
}

replaced : (S L : List ℕ) (low N : ℕ) (ok : Bool) (place : Place) (f : Frame) → Placed low ok place → Loose S L N ok low f → Loose S L N ok low (record f { place = place })
replaced S L low N ok place f p l = record { above = l.above; below = l.below; place = p; tag = l.tag; bars = l.bars; still = l.still; shut = l.shut }

outermost_at-loose : (S L : List ℕ) (low N : ℕ) (ok : Bool) (place : Place) (fs : List Frame) → Placed low ok place → Each (Loose S L N ok low) fs → Each (Loose S L N ok low) (outermost_at place fs)
outermost_at-loose S L low N ok place [] p h = tt
outermost_at-loose S L low N ok place (f ∷ []) p h = (replaced S L low N ok place f p h.0, tt)
outermost_at-loose S L low N ok place (f ∷ g ∷ fs) p h = (h.0, outermost_at-loose S L low N ok place (g ∷ fs) p h.1)

moved_place-Placed : (low : ℕ) (ok : Bool) (block new : ℕ) (place : Place) → 2 < new → Placed low ok place → Placed low ok (moved_place block new place)
moved_place-Placed low ok block new here l p = tt
moved_place-Placed low ok block new (into k) l p = cond_both (k == block) new k (λ x. Placed low ok (into x)) (λ _. (omega (arith, l), λ _. omega (arith, l))) (λ _. p)
moved_place-Placed low ok block new (behind k) l p =
    cond_both (k == block) new k (λ x. Placed low ok (behind x)) (λ _. (omega (arith, l), (λ _. omega (arith, l)), λ _. omega (arith, l))) (λ _. p)
moved_place-Placed low ok block new into_head l p = p

moved-loose : (S L : List ℕ) (low N : ℕ) (ok : Bool) (block new : ℕ) (fs : List Frame) → 2 < new → Each (Loose S L N ok low) fs → Each (Loose S L N ok low) (moved_into block new fs)
moved-loose S L low N ok block new [] l h = tt
moved-loose S L low N ok block new (f ∷ fs) l h =
    (replaced S L low N ok (moved_place block new f.place) f (moved_place-Placed low ok block new f.place l h.0.place) h.0, moved-loose S L low N ok block new fs l h.1)

elements-each : (P : Frame → Type 0) (fs : List Frame) → Each P fs → Each P (elements fs)
elements-each P [] h = tt
elements-each P (f ∷ fs) h = cond_both f.is_open (f ∷ elements fs) (elements fs) (Each P) (λ _. (h.0, elements-each P fs h.1)) (λ _. elements-each P fs h.1)

first-inside : (S L : List ℕ) (N : ℕ) (ok : Bool) (j : ℕ) {low m : ℕ} {tg : Tag} {path : Path} → First S L N ok j low m tg path → Each (Loose S L N ok low) (inside_of j path)
first-inside S L N ok j {low} (at f p l e s) = subst (Each (Loose S L N ok low)) (sym (ap (λ (x : Bool). if x then [] else f ∷ inside_of j p) e)) tt
first-inside S L N ok j {low} (after f p l n s) =
    subst (Each (Loose S L N ok low)) (sym (ap (λ (x : Bool). if x then [] else f ∷ inside_of j p) n)) (l, first-inside S L N ok j s)

widened-loose : (S L : List ℕ) (N : ℕ) (ok : Bool) (T M : List ℕ) (K low : ℕ) (fs : List Frame) → Wider S L N ok T M K ok → Each (Loose S L N ok low) fs → Each (Loose T M K ok low) fs
widened-loose S L N ok T M K low fs w h = each-weaken (Loose S L N ok low) (Loose T M K ok low) fs (λ f l. wider-loose S L N ok T M K ok w low f l) h

pointer_kept : (N : ℕ) (S L T M : List ℕ) (pointer : Option ℕ) → Grown N S L T M → Each (λ k. (2 < k) × (k < N)) S → IfSome (IsForm S L) pointer → IfSome (IsForm T M) pointer
pointer_kept N S L T M None g n f = tt
pointer_kept N S L T M (Some k) g n f = record {
  number = g.all_numbers k f.number;
  unlisted = λ i. f.unlisted (g.listed k (each_in (λ j. (2 < j) × (j < N)) k S n f.number).1 i);
}

loose-copied : (S L : List ℕ) (low N : ℕ) (ok : Bool) (fs : List Frame) → Each (Loose S L N ok low) fs → Each (Copied low ok N S) fs
loose-copied S L low N ok fs h = each-weaken (Loose S L N ok low) (Copied low ok N S) fs (λ f l. (l.below, l.bars, l.tag)) h

-- an HTML element of the names
pub html_space_is : (s : Namespace) → by_space s true false false ≡ true → s ≡ html_space
html_space_is html_space e = refl
html_space_is math_space e = absurd (true≢false (sym e))
html_space_is svg_space e = absurd (true≢false (sym e))

pub scope_bounds : Bounds is_scope
scope_bounds t e =
    let y = and_parts (is_html t) (is_one_of (codes "html template td th") t.name) e in
    ap (λ s. by_space s (is_one_of scope_names t.name) (is_math_mark t) (is_svg_mark t)) (html_space_is t.space y.0)
    ∙ any_word (λ name. is_one_of scope_names name ≡ true) (words (codes "html template td th")) t.name (refl, (refl, (refl, (refl, tt)))) y.1

un_not : (x : Bool) → not x ≡ false → x ≡ true
un_not true e = refl
un_not false e = absurd (true≢false e)

-- a special element bounds it
special_words : (counts : Bool) → Each (λ name. is_special_name counts name ≡ true) (words (codes "html template td th"))
special_words true = (refl, (refl, (refl, (refl, tt))))
special_words false = (refl, (refl, (refl, (refl, tt))))

pub special_bounds : (counts : Bool) → Bounds (is_special counts)
special_bounds counts t e =
    let y = and_parts (is_html t) (is_one_of (codes "html template td th") t.name) e in
    ap (λ s. by_space s (is_special_name counts t.name) (is_math_mark t) (is_svg_mark t)) (html_space_is t.space y.0)
    ∙ any_word (λ name. is_special_name counts name ≡ true) (words (codes "html template td th")) t.name (special_words counts) y.1

not_implied_again : (name : List ℕ) (t : Tag) → is_named name t ≡ true → (is_implied t && not (is_named name t)) ≡ false
not_implied_again name t e = and_right (is_implied t) (not (is_named name t)) (ap not e)

module _ (low : ℕ) (md : Mode) where
  -- with all numbers that were there
  abbrev pub Grew : List ℕ → Builder → Type 0
  Grew S b = (d : Deep low md b) × ((k : ℕ) → IsIn k S → IsIn k d.S)

  abbrev GrewAfter : List ℕ → Outcome → Type 0
  GrewAfter S (Done b) = Grew S b
  GrewAfter S (Again b) = Grew S b

  adopted-Deep : (b : Builder) (own : Listed) (block : Frame) (clones : Clones) (outer : Path) → IsFree own.tag → (d : Deep low md b) → Further d.S d.L b.next b.is_frameset_ok own.number low d.m d.tg b.path block →
      Made low b.is_frameset_ok b.next d.S d.L clones → Seated d.S d.L b.next b.is_frameset_ok low d.m d.tg outer → GrewAfter d.S (adopted b own block clones outer)
  adopted-Deep b own block clones outer t d w c y =
      let ok : Bool = b.is_frameset_ok in
      let new : ℕ = clones.next in
      let K : ℕ = suc new in
      let T : List ℕ = new ∷ c.T in
      let M : List ℕ = new ∷ c.M in
      let wide : Wider d.S d.L b.next ok T M K ok = record {
        numbers = λ k l i. elim i [ inl e ↦ absurd (omega (arith, l, e, c.more)) | inr j ↦ c.grown.numbers k l j ];
        listed = λ k l i. elim i [ inl e ↦ absurd (omega (arith, l, e, c.more)) | inr j ↦ c.grown.listed k l j ];
        more = omega (arith, c.more);
        narrower = λ e. e;
      } in
      let place : Place = place_in b.is_fostering outer in
      let p : Placed low ok place = place_in-Placed d.S d.L b.next ok b.is_fostering outer d.quiet.fostering y in
      let emptied : Frame = record block { children = no_nodes; waiting = no_nodes; place = here } in
      let at_block : Loose T M K ok low block = wider-loose d.S d.L b.next ok T M K ok wide low block w.1 in
      let ahead : Path = emptied ∷ clones.frames in
      let ahead-loose : Each (Loose T M K ok low) ahead = (
        record { above = at_block.above; below = at_block.below; place = tt; tag = at_block.tag; bars = at_block.bars; still = at_block.still; shut = at_block.shut },
        each-weaken (IsClone low ok new) (Loose T M K ok low) clones.frames
            (λ f x. clone-loose T M low ok K f (record { above = x.above; below = omega (arith, x.below); place = x.place; tag = x.tag; bars = x.bars; open_still = x.open_still })) c.frames,
      ) in
      let around = append-Seated T M K ok (outermost_at place ahead) outer (outermost_at-loose T M low K ok place ahead p ahead-loose) (wider-Seated d.S d.L b.next ok T M K ok wide y) in
      let frame : Frame = record (new_frame new own.tag here) { children = block.children; waiting = block.waiting } in
      let above : 2 < new = omega (arith, d.held.above, c.more) in
      let at_new : Loose T M K ok low frame = record { above = above; below = omega arith; place = tt; tag = plain-Tagged low ok own.tag (free_plain own.tag t); bars = λ _. free_bar own.tag t; still = λ _. refl; shut = λ _. t.1 } in (
        record {
          S = T;
          L = M;
          m = d.m;
          mode_is = d.mode_is;
          tg = d.tg;
          held = record {
            seats = append-Seated T M K ok (moved_into block.number new (inside_of block.number b.path)) (frame ∷ (outermost_at place ahead ++ outer))
                (moved-loose T M low K ok block.number new (inside_of block.number b.path) above
                (widened-loose d.S d.L b.next ok T M K low (inside_of block.number b.path) wide (inside-loose d.S d.L b.next ok w.0)))
                (inside frame (outermost_at place ahead ++ outer) at_new around);
            active = moved-kept (Kept T M) own.number new own.tag clones.frames clones.entries ((inl refl, inl refl), t) (λ j x h. ((inl refl, inl refl), h.1))
                (each-weaken (Kept c.T c.M) (Kept T M) clones.entries (λ x h. kept_more c.T c.M T M x (λ k i. inr i) (λ k i. inr i) h) c.entries);
            form = pointer_kept b.next d.S d.L T M b.form (record {
              numbers = wide.numbers;
              listed = wide.listed;
              all_numbers = λ k i. inr (c.grown.all_numbers k i);
              all_listed = λ k i. inr (c.grown.all_listed k i);
            }) d.held.numbers d.held.form;
            numbers = ((above, omega arith), each-weaken (λ k. (2 < k) × (k < new)) (λ k. (2 < k) × (k < K)) c.T (λ k x. (x.0, omega (arith, x.1))) c.numbers);
            listed = (omega arith, each-weaken (λ k. k < new) (λ k. k < K) c.M (λ k x. omega (arith, x)) c.listed);
            above = omega (arith, above);
          };
          quiet = d.quiet;
        },
        λ k i. inr (c.grown.all_numbers k i),
      )

  with_block-Deep : (b : Builder) (own : Listed) (block : Option Frame) → IsFree own.tag → (d : Deep low md b) → Sought d.S d.L b.next b.is_frameset_ok (at_number_is own.number) low d.m d.tg b.path →
      IfSome (Further d.S d.L b.next b.is_frameset_ok own.number low d.m d.tg b.path) block → GrewAfter d.S (with_block b own block)
  with_block-Deep b own None t d s w = (
    record {
      S = d.S;
      L = d.L;
      m = d.m;
      mode_is = d.mode_is;
      tg = d.tg;
      held = record {
        seats = popped_through-Seated d.S d.L b.next b.is_frameset_ok (at_number_is own.number) b.path s;
        active = unlisted-kept (Kept d.S d.L) own.number b.active d.held.active;
        form = d.held.form;
        numbers = d.held.numbers;
        listed = d.held.listed;
        above = d.held.above;
      };
      quiet = d.quiet;
    },
    λ k i. i,
  )
  with_block-Deep b own (Some block) t d s w =
      let ok : Bool = b.is_frameset_ok in
      let outer : Path = outside_of block.number b.path in
      let f = outside-First d.S d.L b.next ok w.0 in
      adopted-Deep b own block (cloned 0 (elements (inside_of own.number outer)) b.active b.next) (settled_to (first (elements (outside_of own.number b.path))) outer) t d w
      (cloned-made low ok b.next d.S d.L 0 (elements (inside_of own.number outer)) b.active d.held.above
      (loose-copied d.S d.L low b.next ok (elements (inside_of own.number outer)) (elements-each (Loose d.S d.L b.next ok low) (inside_of own.number outer) (first-inside d.S d.L b.next ok own.number f)))
      d.held.active d.held.numbers d.held.listed)
      (subst (λ x. Seated d.S d.L b.next ok low d.m d.tg (settled_to (first (elements x)) outer)) (outside-same d.S d.L b.next ok w.0) (settled_to-Seated d.S d.L b.next ok own.number outer f))

  other_end-Grew : (name : List ℕ) (b : Builder) → NoBar (is_named name) → (d : Deep low md b) → Grew d.S (any_other_end_tag name b)
  other_end-Grew name b n d =
      cond_both (within (has_tag (is_named name)) (has_tag (is_special b.flags.counts_search)) (elements b.path)) (close_except_for (is_named name) (is_named name) b) b (Grew d.S)
      (λ e. (close-Deep low md (is_named name) (is_named name) (is_special b.flags.counts_search) b n (special_bounds b.flags.counts_search) (not_implied_again name) e d, λ k i. i)) (λ _. (d, λ k i. i))

  pub other_end-Deep : (name : List ℕ) (b : Builder) → NoBar (is_named name) → Deep low md b → Deep low md (any_other_end_tag name b)
  other_end-Deep name b n d = (other_end-Grew name b n d).0

  with_formatting-Deep : (name : List ℕ) (b : Builder) (own : Option Listed) → NoBar (is_named name) → (d : Deep low md b) → IfSome (λ x. Kept d.S d.L (formatting x.number x.tag)) own → GrewAfter d.S (with_formatting name b own)
  with_formatting-Deep name b None n d o = other_end-Grew name b n d
  with_formatting-Deep name b (Some own) n d o =
      let above = number_above own.number d.held o.0.0 in
      let y = d.held.seats in
      cond_both (not (is_open_number own.number b.path)) (Done (record b { active = unlisted own.number b.active })) _ (GrewAfter d.S)
      (λ _. (with_active low md b (unlisted own.number b.active) d (unlisted-kept (Kept d.S d.L) own.number b.active d.held.active), λ k i. i))
      (λ _. cond_both (not (within (has_number own.number) (has_tag is_scope) (elements b.path))) (Done b) (with_block b own (furthest_block own.number b)) (GrewAfter d.S)
      (λ _. (d, λ k i. i))
      (λ e. let s = search-Sought d.S d.L b.next b.is_frameset_ok (at_number_is own.number) is_scope (stops_at own.number is_scope above.0 o.0.0 scope_bounds y) (un_not (within (has_number own.number) (has_tag is_scope) (elements b.path)) e) y in
      with_block-Deep b own (furthest_block own.number b) o.1 d s
      (outermost-further d.S d.L b.next b.is_frameset_ok b.path (is_special b.flags.counts_search) own.number None o.0.1 (λ k z. z) tt (first_of d.S d.L b.next b.is_frameset_ok own.number s))))

  grew-after : (S T : List ℕ) (o : Outcome) → ((k : ℕ) → IsIn k S → IsIn k T) → GrewAfter T o → GrewAfter S o
  grew-after S T (Done b) w h = (h.0, λ k i. h.1 k (w k i))
  grew-after S T (Again b) w h = (h.0, λ k i. h.1 k (w k i))

  repeated-Grew : (S : List ℕ) (n : ℕ) (step : Builder → Outcome) (o : Outcome) → ((b : Builder) (d : Deep low md b) → GrewAfter d.S (step b)) → GrewAfter S o → Grew S (repeated n step o)
  repeated-Grew S n step (Done b) s h = h
  repeated-Grew S zero step (Again b) s h = h
  repeated-Grew S (suc n) step (Again b) s h = repeated-Grew S n step (step b) s (grew-after S h.0.S (step b) h.1 (s b h.0))

  pub agency-Grew : (name : List ℕ) (b : Builder) → NoBar (is_named name) → (d : Deep low md b) → Grew d.S (adoption_agency name b)
  agency-Grew name b n d =
      cond_both (is_named name (current_node b).tag && not (is_listed (current_node b).number b.active)) (pop_current_node b) (repeated 8 (adoption_round name) (Again b)) (Grew d.S)
      (λ e. (pop-Deep low md (is_named name) b n (and_parts (is_named name (current_node b).tag) (not (is_listed (current_node b).number b.active)) e).0 d, λ k i. i))
      (λ _. repeated-Grew d.S 8 (adoption_round name) (Again b) (λ c k. with_formatting-Deep name c (listed name c.active) n k (listed-kept (Kept k.S k.L) name c.active k.held.active)) (d, λ k i. i))

  pub agency-Deep : (name : List ℕ) (b : Builder) → NoBar (is_named name) → Deep low md b → Deep low md (adoption_agency name b)
  agency-Deep name b n d = (agency-Grew name b n d).0
