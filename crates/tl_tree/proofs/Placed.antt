-- From which place on frames go to what is right around them.
use Rattle.std.proofs.Common.{ap, arith, sym, subst, ◌∙◌, ◌≡◌, ◌+◌, ◌≤◌, ◌<◌, ◌++◌, ◌∷◌, [], Bool, IsTrue, List, cond, drop, false, length, map, min, refl, set, suc, take, true, zero, ℕ}
use Rattle.std.proofs.lemmas.Bool.{and_from, and_parts, false≢true}
use Rattle.std.proofs.lemmas.List.{drop-map, drop_all, take-append-drop}
use Rattle.std.specs.List.{insert, list_all}
use Rattle.tl_dom_spec.specs.Adoption.{moved_place}
use Rattle.tl_dom_spec.specs.Path as dom
use Rattle.tl_tree.proofs.Listed.{all-drop, all-take}
use Rattle.tl_tree.proofs.Numbers.{either}
use Rattle.tl_tree.specs.Inner.Adopted.{moved}
use Rattle.tl_tree.specs.Inner.Framed.{goes_here, is_here}
use Rattle.tl_tree.specs.Inner.Frames.{frame_of, frames_of, place_of}
use Rattle.tl_tree.specs.declared.frame.Frame.{Frame}
use Rattle.tl_tree.specs.declared.frame.Place.{Place}
use Rattle.tl_tree.specs.declared.frame.Place.TheVariants.{Behind, Here, Into, IntoHead}
use Rattle.tl_tree.specs.declared.path.FramePath.{FramePath}
use Rattle.tl_tree.specs.declared.store.Store.{Store}

abbrev pub HereFrom : ℕ → List Frame → Type 0
HereFrom k frames = IsTrue (list_all is_here (drop k frames))

pub here-none : (k : ℕ) (frames : List Frame) → length frames ≤ k → HereFrom k frames
here-none k frames h =
    subst (λ (own : List Frame). IsTrue (list_all is_here own)) (sym (drop_all k frames h)) refl

-- further in, or where no frame is
pub here-later : (frames : List Frame) (k n : ℕ) → min k (length frames) ≤ n → HereFrom k frames → HereFrom n frames
here-later [] k n h all = all-drop is_here n [] refl
here-later (f ∷ frames) zero n h all = all-drop is_here n (f ∷ frames) all
here-later (f ∷ frames) (suc k) zero h all = absurd (omega arith)
here-later (f ∷ frames) (suc k) (suc n) h all = here-later frames k n (omega arith) all

-- those that stand from a place on
pub here-within : (frames : List Frame) (k n place : ℕ) → k ≤ n + place → HereFrom k frames → HereFrom n (drop place frames)
here-within frames k n zero h all = here-later frames k n (omega arith) all
here-within [] k n (suc place) h all = all-drop is_here n [] refl
here-within (f ∷ frames) zero n (suc place) h all =
    here-within frames zero n place (omega arith) (and_parts (is_here f) (list_all is_here frames) all).1
here-within (f ∷ frames) (suc k) n (suc place) h all = here-within frames k n place (omega arith) all

-- those that stand inside of others
pub here-appended : (xs ys : List Frame) (k n : ℕ) → length xs + k ≤ n → HereFrom k ys → HereFrom n (xs ++ ys)
here-appended [] ys k n h all = here-later ys k n (omega arith) all
here-appended (x ∷ xs) ys k zero h all = absurd (omega arith)
here-appended (x ∷ xs) ys k (suc n) h all = here-appended xs ys k n (omega arith) all

one-of : (b : Bool) → (b ≡ false → false ≡ true) → IsTrue b
one-of true h = refl
one-of false h = h refl

-- a frame is written
here-at : (frames : List Frame) (i k : ℕ) (f : Frame) → (goes_here f.place ≡ false → i < k) → HereFrom k frames → HereFrom k (set frames i f)
here-at [] i k f h all = all
here-at (g ∷ frames) zero zero f h all =
    and_from (is_here f) (list_all is_here frames) (one-of (is_here f) (λ e. none (h e))) (and_parts (is_here g) (list_all is_here frames) all).1
  where
    none : 0 < 0 → false ≡ true
    none less = absurd (omega arith)
here-at (g ∷ frames) (suc i) zero f h all =
    let p = and_parts (is_here g) (list_all is_here frames) all in
    and_from (is_here g) (list_all is_here (set frames i f)) p.0 (here-at frames i zero f (λ e. less (h e)) p.1)
  where
    less : suc i < 0 → i < 0
    less l = absurd (omega arith)
here-at (g ∷ frames) zero (suc k) f h all = all
here-at (g ∷ frames) (suc i) (suc k) f h all = here-at frames i k f (λ e. less (h e)) all
  where
    less : suc i < suc k → i < k
    less l = omega arith

pub here-set : (frames : List Frame) (i k n : ℕ) (f : Frame) → k ≤ n → (goes_here f.place ≡ false → i < n) → HereFrom k frames → HereFrom n (set frames i f)
here-set frames i k n f le h all = here-at frames i n f h (here-later frames k n (omega arith) all)

-- a frame comes inside of them
here-push : (frames : List Frame) (k : ℕ) (f : Frame) → (goes_here f.place ≡ false → length frames < k) → HereFrom k frames → HereFrom k (frames ++ f ∷ [])
here-push [] zero f h all =
    and_from (is_here f) true (one-of (is_here f) (λ e. none (h e))) refl
  where
    none : 0 < 0 → false ≡ true
    none less = absurd (omega arith)
here-push [] (suc k) f h all = all-drop is_here k [] refl
here-push (g ∷ frames) zero f h all =
    let p = and_parts (is_here g) (list_all is_here frames) all in
    and_from (is_here g) (list_all is_here (frames ++ f ∷ [])) p.0 (here-push frames zero f (λ e. less (h e)) p.1)
  where
    less : suc (length frames) < 0 → length frames < 0
    less l = absurd (omega arith)
here-push (g ∷ frames) (suc k) f h all = here-push frames k f (λ e. less (h e)) all
  where
    less : suc (length frames) < suc k → length frames < k
    less l = omega arith

pub here-pushed : (r : Bool) (frames new : List Frame) (k n : ℕ) (f : Frame) → new ≡ cond r (frames ++ f ∷ []) frames → k ≤ n → (goes_here f.place ≡ false → length frames < n) → HereFrom k frames → HereFrom n new
here-pushed r frames new k n f e le h all =
    let later = here-later frames k n (omega arith) all in
    either (HereFrom n) r (frames ++ f ∷ []) frames new e (here-push frames n f h later) later

-- the innermost ones go
pub here-cut : (frames : List Frame) (n k m : ℕ) → m ≡ min k n → HereFrom k frames → HereFrom m (take n frames)
here-cut [] zero k m is all = all-drop is_here m [] refl
here-cut [] (suc n) k m is all = all-drop is_here m [] refl
here-cut (f ∷ frames) zero k m is all = all-drop is_here m [] refl
here-cut (f ∷ frames) (suc n) zero zero is all = all-take is_here (suc n) (f ∷ frames) all
here-cut (f ∷ frames) (suc n) zero (suc m) is all = absurd (omega arith)
here-cut (f ∷ frames) (suc n) (suc k) zero is all = absurd (omega arith)
here-cut (f ∷ frames) (suc n) (suc k) (suc m) is all = here-cut frames n k m (omega arith) all

pub here-front : (frames : List Frame) (n k : ℕ) → HereFrom k frames → HereFrom k (take n frames)
here-front [] zero k all = all-drop is_here k [] refl
here-front [] (suc n) k all = all-drop is_here k [] refl
here-front (f ∷ frames) zero k all = all-drop is_here k [] refl
here-front (f ∷ frames) (suc n) zero all = all-take is_here (suc n) (f ∷ frames) all
here-front (f ∷ frames) (suc n) (suc k) all = here-front frames n k all

neither : (n k x y : ℕ) → (k ≤ n → x < 0) → (n < k → y < 0) → false ≡ true
neither n zero x y a b = (let less = a (omega arith) in absurd (omega arith))
neither zero (suc k) x y a b = (let less = b (omega arith) in absurd (omega arith))
neither (suc n) (suc k) x y a b =
    neither n k x y (λ (h : k ≤ n). a (omega arith)) (λ (h : n < k). b (omega arith))

-- a frame comes between them
here-between : (frames : List Frame) (n k m : ℕ) (f : Frame) → IsTrue (is_here f) → (k ≤ n → k ≤ m) → (n < k → min k (length frames) < m) → HereFrom k frames → HereFrom m (take n frames ++ f ∷ drop n frames)
here-between frames zero zero m f own le less all =
    all-drop is_here m (f ∷ frames) (and_from (is_here f) (list_all is_here frames) own all)
here-between frames zero (suc k) zero f own le less all = absurd (false≢true (none (less (omega arith))))
  where
    none : min (suc k) (length frames) < 0 → false ≡ true
    none l = absurd (omega arith)
here-between frames zero (suc k) (suc m) f own le less all =
    here-later frames (suc k) m (below (less (omega arith))) all
  where
    below : min (suc k) (length frames) < suc m → min (suc k) (length frames) ≤ m
    below l = omega arith
here-between [] (suc n) k zero f own le less all = and_from (is_here f) true own refl
here-between [] (suc n) k (suc m) f own le less all = all-drop is_here m [] refl
here-between (g ∷ frames) (suc n) zero m f own le less all =
    let p = and_parts (is_here g) (list_all is_here frames) all in
    all-drop is_here m (g ∷ (take n frames ++ f ∷ drop n frames))
    (and_from (is_here g) (list_all is_here (take n frames ++ f ∷ drop n frames)) p.0
    (here-between frames n zero zero f own (λ (h : 0 ≤ n). omega arith) (λ (h : n < 0). absurd (omega arith)) p.1))
here-between (g ∷ frames) (suc n) (suc k) zero f own le less all =
    absurd (false≢true (neither (suc n) (suc k) k (min (suc k) (suc (length frames))) (λ (h : suc k ≤ suc n). down (le h)) less))
  where
    down : suc k ≤ 0 → k < 0
    down l = omega arith
here-between (g ∷ frames) (suc n) (suc k) (suc m) f own le less all =
    here-between frames n k m f own (λ (h : k ≤ n). down (le (omega arith))) (λ (h : n < k). lower (less (omega arith))) all
  where
    down : suc k ≤ suc m → k ≤ m
    down l = omega arith

    lower : min (suc k) (suc (length frames)) < suc m → min k (length frames) < m
    lower l = omega arith

pub here-inserted : (r : Bool) (frames new : List Frame) (n k m : ℕ) (f : Frame) → new ≡ cond r (insert frames n f) frames → IsTrue (is_here f) → (k ≤ n → k ≤ m) → (n < k → min k (length frames) < m) → min k (length frames) ≤ m → HereFrom k frames → HereFrom m new
here-inserted r frames new n k m f e own le less least all =
    either (HereFrom m) r (insert frames n f) frames new e (here-between frames n k m f own le less all) (here-later frames k m least all)

-- What is moved

moved-here : (s : Store) (block new : ℕ) (f : Frame) → IsTrue (is_here f) → moved block new (frame_of s f) ≡ frame_of s f
moved-here s block new f h =
    ap (λ (place : dom.Place). record (frame_of s f) { place = place }) (here-stays f.place h)
  where
    here-stays : (place : Place) → IsTrue (goes_here place) → moved_place block new (place_of place) ≡ place_of place
    here-stays Here h = refl
    here-stays (Into number) h = absurd (false≢true h)
    here-stays (Behind number) h = absurd (false≢true h)
    here-stays IntoHead h = refl

-- where none goes elsewhere, none is moved
pub moved-none : (p : FramePath) (i : ℕ) (block new : ℕ) → HereFrom i p.frames.items → take i (frames_of p) ++ map (moved block new) (drop i (frames_of p)) ≡ frames_of p
unfolding frames_of
moved-none p i block new h =
    let frames = map (frame_of p.store) p.frames.items in
    ap (λ fs. take i frames ++ map (moved block new) fs) (drop-map (frame_of p.store) i p.frames.items)
    ∙ (ap (λ fs. take i frames ++ fs) (same p.store (drop i p.frames.items) h ∙ sym (drop-map (frame_of p.store) i p.frames.items))
    ∙ take-append-drop i frames)
  where
    same : (s : Store) (frames : List Frame) → IsTrue (list_all is_here frames) → map (moved block new) (map (frame_of s) frames) ≡ map (frame_of s) frames
    same s [] h = refl
    same s (f ∷ frames) h =
        let p = and_parts (is_here f) (list_all is_here frames) h in
        ap (λ own. own ∷ map (moved block new) (map (frame_of s) frames)) (moved-here s block new f p.0)
        ∙ ap (λ rest. frame_of s f ∷ rest) (same s frames p.1)
