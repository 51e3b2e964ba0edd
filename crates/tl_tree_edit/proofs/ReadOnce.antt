-- Readings that are kept, and where they are found.
use Rattle.std.proofs.Common.{Bool, List, None, Option, Some, [], ap, arith, drop, length, length-append, map, refl, subst, sym, ℕ, ◌++◌, ◌<◌, ◌≡◌, ◌∙◌, ◌∷◌}
use Rattle.std.proofs.Math.Seq.{get_or-append_seam}
use Rattle.std.proofs.lemmas.List.{get_or_append_left}
use Rattle.std.proofs.lemmas.Simd.{map-map}
use Rattle.std.proofs.lemmas.List.Concat.{flat_map_single}
use Rattle.std.proofs.lemmas.List.Elements.{All-append, All-cons, All-get_or, All-nil}
use Rattle.std.proofs.lemmas.Option.{get_or_from_slice_get, none-some, same_Some, slice_get-get_or, slice_get_within}
use Rattle.std.specs.List.{flat_map}
use Rattle.std.specs.Option.{option_map}
use Rattle.std.specs.Prelude.{slice_get}
use Rattle.tl_dom_spec.specs.HtmlTree.{html_fragment_by, standard}
use Rattle.tl_dom_spec.specs.Tags.{Tag}
use Rattle.tl_tree.specs.Rows.{Row, rows_of}
use Rattle.tl_tree.specs.TreeView.{rows_in}
use Rattle.tl_tree_edit.specs.Inner.Contexts.{AreRead, IsRead, IsReadAlike, Keeps, context_by, put_by, read_at_seat, read_for, rows_read, seat_tag, should_read}
use Rattle.tl_tree_edit.specs.Changes.{Edit}
use Rattle.tl_tree_edit.specs.Operations.{made, put_at, puts}
use Rattle.tl_tree_edit.specs.declared.fragments.Fragment.{Fragment}
use Rattle.tl_tree_edit.specs.declared.position.Position.{Position}
use Rattle.tl_tree_edit.specs.declared.readings.Reading.{Reading}
use Rattle.tl_tree_edit.specs.declared.readings.Seat.{Seat}

found_still : {A : Type 0} (xs ys : List A) (k : ℕ) (x : A) → slice_get xs k ≡ Some x → slice_get (xs ++ ys) k ≡ Some x
found_still xs ys k x e =
    let lt = slice_get_within xs k x e in
    let within : k < length (xs ++ ys) = omega (arith, lt, length-append xs ys) in
    slice_get-get_or (xs ++ ys) k x within ∙ ap Some (get_or_append_left xs ys x k lt ∙ get_or_from_slice_get xs k x x e)

found_last : {A : Type 0} (xs : List A) (x : A) → slice_get (xs ++ x ∷ []) (length xs) ≡ Some x
found_last xs x =
    let within : length xs < length (xs ++ x ∷ []) = omega (arith, length-append xs (x ∷ [])) in
    slice_get-get_or (xs ++ x ∷ []) (length xs) x within ∙ ap Some (get_or-append_seam xs x [] x)

first_same : {A : Type 0} (x y : A) (xs ys : List A) → x ∷ xs ≡ y ∷ ys → x ≡ y
first_same x y xs ys e = same_Some x y (ap (λ (zs : List _). slice_get zs 0) e)

later_same : {A : Type 0} (x y : A) (xs ys : List A) → x ∷ xs ≡ y ∷ ys → xs ≡ ys
later_same x y xs ys e = ap (λ (zs : List _). drop 1 zs) e

module _ (rows : List Row) (q is : Bool) (markup : List ℕ) where
  -- one more is read
  pub read_more : (old new : List Reading) (x : Reading) → new ≡ old ++ x ∷ [] → AreRead rows q is markup old → IsRead rows q is markup x → AreRead rows q is markup new
  read_more old new x e all one =
      subst (AreRead rows q is markup) (sym e)
      (All-append (IsRead rows q is markup) old (x ∷ []) all (All-cons (IsRead rows q is markup) x [] one (All-nil (IsRead rows q is markup))))

  -- what was read at another place where it is read alike
  pub read_alike : (readings : List Reading) (seat : Seat) (k : ℕ) → AreRead rows q is markup readings → IsReadAlike rows is readings seat k →
      rows_read readings k ≡ Some (read_at_seat rows q is markup seat)
  read_alike readings seat k all h =
      let own = h.own in
      let lt = slice_get_within readings k own h.stands in
      let read = subst (IsRead rows q is markup) (get_or_from_slice_get readings k own own h.stands) (All-get_or (IsRead rows q is markup) readings k own lt all) in
      ap (option_map (λ (r : Reading). rows_in r.trees)) h.stands
      ∙ ap Some
      (read
      ∙ (ap (λ (t : Tag). rows_of (html_fragment_by standard (context_by t (own.seat).is_in_form q) markup)) h.tag
      ∙ ap (λ (f : Bool). rows_of (html_fragment_by standard (context_by (seat_tag rows is seat) f q) markup)) h.is_in_form))

  -- and what is read now
  pub read_last : (old new : List Reading) (x : Reading) (k : ℕ) → new ≡ old ++ x ∷ [] → k ≡ length old → IsRead rows q is markup x →
      rows_read new k ≡ Some (read_at_seat rows q is markup x.seat)
  read_last old new x k e at one =
      ap (λ n. rows_read new n) at
      ∙ (ap (λ rs. rows_read rs (length old)) e
      ∙ (ap (option_map (λ (r : Reading). rows_in r.trees)) (found_last old x) ∙ ap Some one))

pub pushed_keeps : (old new : List Reading) (x : Reading) → new ≡ old ++ x ∷ [] → Keeps old new
pushed_keeps old new x e k own h = ap (λ rs. slice_get rs k) e ∙ found_still old (x ∷ []) k own h

-- what was found is found

still : (o p : Option Reading) (rows : List Row) → ((own : Reading) → o ≡ Some own → p ≡ Some own) →
    option_map (λ (r : Reading). rows_in r.trees) o ≡ Some rows → option_map (λ (r : Reading). rows_in r.trees) p ≡ Some rows
still None p rows keep e = absurd (none-some rows e)
still (Some own) p rows keep e = ap (option_map (λ (r : Reading). rows_in r.trees)) (keep own refl) ∙ e

module _ (old new : List Reading) (keeps : Keeps old new) (g : ℕ → List Row) where
  one_kept : (f : Fragment) (n : ℕ) → read_for old f ≡ (n, Some (g n)) → read_for new f ≡ (n, Some (g n))
  one_kept f n e =
      let there = still (slice_get old f.reading) (slice_get new f.reading) (g n) (keeps f.reading) (ap (λ (p : ℕ × Option (List Row)). p.1) e) in
      ap (λ (o : Option (List Row)). (f.number, o)) there ∙ ap (λ (m : ℕ). (m, Some (g n))) (ap (λ (p : ℕ × Option (List Row)). p.0) e)

  pub all_kept : (fs : List Fragment) (ns : List ℕ) → map (read_for old) fs ≡ map (λ m. (m, Some (g m))) ns → map (read_for new) fs ≡ map (λ m. (m, Some (g m))) ns
  all_kept [] [] e = refl
  all_kept [] (n ∷ ns) e = cc
  all_kept (f ∷ fs) [] e = cc
  all_kept (f ∷ fs) (n ∷ ns) e =
      ap (λ x. x ∷ map (read_for new) fs) (one_kept f n (first_same (read_for old f) (n, Some (g n)) (map (read_for old) fs) (map (λ m. (m, Some (g m))) ns) e))
      ∙ ap (λ xs. (n, Some (g n)) ∷ xs) (all_kept fs ns (later_same (read_for old f) (n, Some (g n)) (map (read_for old) fs) (map (λ m. (m, Some (g m))) ns) e))

-- the edits by which markup is put
pub put_made : (rows : List Row) (q : Bool) (position : Position) (markup : List ℕ) (readings : List Reading) (each : List Fragment) (ns : List ℕ) (edits : List Edit) →
    edits ≡ map (put_by rows position) (map (read_for readings) each) → map (read_for readings) each ≡ map (should_read rows q position markup) ns → edits ≡ flat_map (made rows q (puts position markup)) ns
put_made rows q position markup readings each ns edits e r =
    e
    ∙ (ap (map (put_by rows position)) r
    ∙ (map-map (put_by rows position) (should_read rows q position markup) ns
    ∙ sym (flat_map_single (put_at rows q position markup) ns)))
