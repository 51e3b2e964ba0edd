-- A round with a block: its parts together are the definition's.
use Rattle.std.proofs.Common.{ap, arith, sym, ◌∙◌, ◌≡◌, ◌+◌, ◌<◌, ◌++◌, ◌∷◌, [], Bool, List, None, Option, Some, drop, false, length, length-append, map, nat_lt, refl, reverse, suc, take, true, ℕ}
use Rattle.std.proofs.Math.Seq.{drop-append_seam, drop-cons, take-append_seam}
use Rattle.std.proofs.lemmas.List.{append-nil, append_assoc, length-reverse, length-take-le, reverse-append, reverse-reverse}
use Rattle.tl_dom_spec.specs.Adoption.{Clones, cloned, first, is_inside_of, moved_into, outermost_at, outside_of, settled_to}
use Rattle.tl_dom_spec.specs.Builder as dom
use Rattle.tl_dom_spec.specs.Formatting.{Listed, is_listed, relisted, unlisted}
use Rattle.tl_dom_spec.specs.Path.{Frame, Path, Place, document, elements, on_top, place_in, popped_while}
use Rattle.tl_dom_spec.specs.Tags.{Tag}
use Rattle.tl_tree.proofs.Changed.{map-reverse}
use Rattle.tl_tree.proofs.Cloned.{done_by}
use Rattle.tl_tree.proofs.Gone.{path-whole}
use Rattle.tl_tree.proofs.Readopted.{inside-part, outside-part}
use Rattle.tl_tree.proofs.Written.{frames-length}
use Rattle.tl_tree.specs.Inner.Adopted.{AreMade, IsFirst, adopted_path, emptied, filled, frame_at, is_inside, moved, none_cloned, number_of, outer_in, placed, renewed, with_clones, with_outer}
use Rattle.tl_tree.specs.Inner.Frames.{frames_of, path_of}
use Rattle.tl_tree.specs.declared.path.FramePath.{FramePath}

-- The clones

pub cloned-first : (n : ℕ) (fs : List Frame) (entries : List dom.Entry) (next : ℕ) → IsFirst next (cloned n fs entries next).frames
cloned-first n [] entries next = tt
cloned-first n (f ∷ fs) entries next =
    elim (is_listed f.number entries) as (λ listed. IsFirst next (done_by n f fs entries next listed (nat_lt 2 n)).frames) [
      | true ↦ elim (nat_lt 2 n) as (λ many. IsFirst next (done_by n f fs entries next true many).frames) [
        | true ↦ cloned-first (suc n) fs (unlisted f.number entries) next
        | false ↦ refl
      ]
      | false ↦ cloned-first (suc n) fs entries next
    ]

pub cloned-next : (n : ℕ) (fs : List Frame) (entries : List dom.Entry) (next : ℕ) → (cloned n fs entries next).next ≡ next + length (cloned n fs entries next).frames
cloned-next n [] entries next = omega arith
cloned-next n (f ∷ fs) entries next =
    elim (is_listed f.number entries) as (λ listed. (done_by n f fs entries next listed (nat_lt 2 n)).next ≡ next + length (done_by n f fs entries next listed (nat_lt 2 n)).frames) [
      | true ↦ elim (nat_lt 2 n) as (λ many. (done_by n f fs entries next true many).next ≡ next + length (done_by n f fs entries next true many).frames) [
        | true ↦ cloned-next (suc n) fs (unlisted f.number entries) next
        | false ↦ (let rest = cloned-next (suc n) fs (relisted f.number next entries) (suc next) in omega arith)
      ]
      | false ↦ cloned-next (suc n) fs entries next
    ]

-- all clones of a loop that is done
pub made-all : (block : ℕ) (p q : FramePath) (all : Clones) (entries : List dom.Entry) (next a b : ℕ) → (made : AreMade block p q all (none_cloned entries next) a b) → all ≡ record { frames = made.clones; entries = entries; next = next }
made-all block p q all entries next a b made =
    made.whole
    ∙ ap (λ (frames : Path). record { frames = frames; entries = entries; next = next }) (append-nil made.clones)

-- The frames

on-top-append : (change : Frame → Frame) (f : Frame) (xs ys : List Frame) → on_top change (reverse (f ∷ xs) ++ ys) ≡ on_top change (reverse (f ∷ xs)) ++ ys
on-top-append change f xs ys =
    some (reverse (f ∷ xs)) (omega (arith, length-reverse (f ∷ xs)))
  where
    some : (zs : List Frame) → 0 < length zs → on_top change (zs ++ ys) ≡ on_top change zs ++ ys
    some [] h = absurd (omega arith)
    some (z ∷ zs) h = refl

outermost-last : (place : Place) (f : Frame) (xs : List Frame) → reverse (on_top (placed place) (reverse (f ∷ xs))) ≡ outermost_at place (f ∷ xs)
outermost-last place f [] = refl
outermost-last place f (g ∷ xs) =
    ap (λ all. reverse (on_top (placed place) all)) (reverse-append (f ∷ []) (g ∷ xs))
    ∙ (ap reverse (on-top-append (placed place) g xs (f ∷ []))
    ∙ (reverse-append (on_top (placed place) (reverse (g ∷ xs))) (f ∷ [])
    ∙ ap (λ rest. f ∷ rest) (outermost-last place g xs)))

-- the clones around the block, with the new element in it, seen from the inside
adopted-seen : (place : Place) (outer clones zs : Path) (block new : Frame) → reverse (reverse outer ++ on_top (placed place) (reverse clones ++ (block ∷ new ∷ zs))) ≡ reverse zs ++ (new ∷ (outermost_at place (block ∷ clones) ++ outer))
adopted-seen place outer clones zs block new =
    let around = reverse (block ∷ clones) in
    let is : reverse clones ++ (block ∷ new ∷ zs) ≡ around ++ (new ∷ zs) =
    sym (append_assoc (reverse clones) (block ∷ []) (new ∷ zs)) ∙ ap (λ all. all ++ (new ∷ zs)) (sym (reverse-append (block ∷ []) clones)) in
    let top = on_top (placed place) around in
    reverse-append (reverse outer) (on_top (placed place) (reverse clones ++ (block ∷ new ∷ zs)))
    ∙ (ap (λ all. reverse (on_top (placed place) (reverse clones ++ (block ∷ new ∷ zs))) ++ all) (reverse-reverse outer)
    ∙ (ap (λ all. reverse all ++ outer) (ap (on_top (placed place)) is ∙ on-top-append (placed place) block clones (new ∷ zs))
    ∙ (ap (λ all. all ++ outer) (reverse-append top (new ∷ zs) ∙ ap (λ all. reverse (new ∷ zs) ++ all) (outermost-last place block clones))
    ∙ (ap (λ all. (all ++ outermost_at place (block ∷ clones)) ++ outer) (reverse-append (new ∷ []) zs)
    ∙ (ap (λ all. all ++ outer) (append_assoc (reverse zs) (new ∷ []) (outermost_at place (block ∷ clones)))
    ∙ append_assoc (reverse zs) (new ∷ outermost_at place (block ∷ clones)) outer)))))

-- from the place where the clones begin
pub renewed-parts : (n m : ℕ) (clones frames : List Frame) (number : ℕ) (tag : Tag) → n < length frames → m ≡ n + length clones → let all = with_clones n clones frames in let new = take m all ++ renewed number tag (drop m all) in (take n new ≡ take n frames) × (drop n new ≡ reverse clones ++ renewed number tag (drop n frames))
renewed-parts n m clones frames number tag h is =
    let front = take n frames in
    let back = drop n frames in
    let all = with_clones n clones frames in
    let own = front ++ reverse clones in
    let first = length-take-le n frames (omega arith) in
    let many : m ≡ length own = omega (arith, length-append front (reverse clones), length-reverse clones) in
    let at : all ≡ own ++ back = sym (append_assoc front (reverse clones) back) in
    let done : ℕ → List Frame → List Frame = λ k fs. take k fs ++ renewed number tag (drop k fs) in
    let new : done m all ≡ front ++ (reverse clones ++ renewed number tag back) =
    ap (λ k. done k all) many
    ∙ (ap (done (length own)) at
    ∙ (ap (λ fs. fs ++ renewed number tag (drop (length own) (own ++ back))) (take-append_seam own back)
    ∙ (ap (λ fs. own ++ renewed number tag fs) (drop-append_seam own back) ∙ append_assoc front (reverse clones) (renewed number tag back)))) in
    let rest = reverse clones ++ renewed number tag back in (
      ap (take n) new ∙ (ap (λ k. take k (front ++ rest)) (sym first) ∙ take-append_seam front rest),
      ap (drop n) new ∙ (ap (λ k. drop k (front ++ rest)) (sym first) ∙ drop-append_seam front rest),
    )

-- What is settled

inside-same : (ancestor : Option Frame) → is_inside_of ancestor ≡ is_inside (number_of ancestor)
inside-same None = refl
inside-same (Some f) = refl

outer-same : (p : FramePath) (own : Listed) (n : ℕ) (found : Option ℕ) → p.gaps.marks.items ≡ [] → n < length p.frames.items → found ≡ number_of (first (elements (outside_of own.number (path_of p)))) → popped_while (is_inside found) (reverse (take n (frames_of p))) ≡ outer_in own (frame_at p n) (path_of p)
outer-same p own n found whole h is =
    let ancestor = first (elements (outside_of own.number (path_of p))) in
    let out = reverse (take n (frames_of p)) in
    ap (λ (k : Option ℕ). popped_while (is_inside k) out) is
    ∙ (ap (λ (test : Frame → Bool). popped_while test out) (sym (inside-same ancestor))
    ∙ ap (settled_to ancestor) (sym (outside-part p (frame_at p n).number n whole h refl)))

-- The path of a round

pub path-adopted : (p q t : FramePath) (is_fostering : Bool) (own : Listed) (n m next : ℕ) (clones : Path) (entries : List dom.Entry) (found : Option ℕ) (rs : List Frame) → p.gaps.marks.items ≡ [] → t.gaps.marks.items ≡ [] → n < length p.frames.items → m ≡ n + length clones → frames_of q ≡ with_clones n clones (frames_of p) → rs ≡ take m (frames_of q) ++ renewed next own.tag (drop m (frames_of q)) → frames_of t ≡ with_outer is_fostering (popped_while (is_inside found) (reverse (take n rs))) (drop n rs) → found ≡ number_of (first (elements (outside_of own.number (path_of p)))) → path_of t ≡ adopted_path is_fostering own (frame_at p n) (record { frames = clones; entries = entries; next = next }) (outer_in own (frame_at p n) (path_of p)) (path_of p)
path-adopted p q t is_fostering own n m next clones entries found rs whole whole-t h is-m first second third is-found =
    let frames = frames_of p in
    let block = frame_at p n in
    let ys = drop (suc n) frames in
    let many = frames-length p in
    let done : List Frame → List Frame = λ fs. take m fs ++ renewed next own.tag (drop m fs) in
    let parts = renewed-parts n m clones frames next own.tag (omega arith) is-m in
    let at : rs ≡ done (with_clones n clones frames) = second ∙ ap done first in
    let outer = outer_in own block (path_of p) in
    let is-outer : popped_while (is_inside found) (reverse (take n rs)) ≡ outer =
    ap (λ fs. popped_while (is_inside found) (reverse fs)) (ap (take n) at ∙ parts.0) ∙ outer-same p own n found whole h is-found in
    let back : drop n frames ≡ block ∷ ys = drop-cons frames n document (omega arith) in
    let is-inner : drop n rs ≡ reverse clones ++ renewed next own.tag (block ∷ ys) =
    ap (drop n) at ∙ (parts.1 ∙ ap (λ fs. reverse clones ++ renewed next own.tag fs) back) in
    let place = place_in is_fostering outer in
    let change = moved block.number next in
    let inside : moved_into block.number next (reverse ys) ≡ reverse (map change ys) = map-reverse change ys in
    path-whole t whole-t ∙ ap reverse third
    ∙ (ap (λ out. reverse (with_outer is_fostering out (drop n rs))) is-outer
    ∙ (ap (λ fs. reverse (with_outer is_fostering outer fs)) is-inner
    ∙ (adopted-seen place outer clones (map change ys) (emptied block) (filled next own.tag block)
    ∙ ap (λ front. front ++ (filled next own.tag block ∷ (outermost_at place (emptied block ∷ clones) ++ outer)))
    (sym (ap (moved_into block.number next) (inside-part p block.number n whole h refl) ∙ inside)))))
