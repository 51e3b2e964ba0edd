-- The places of attributes, one by one.
use Rattle.std.proofs.Common.{◌≡◌, ◌≤◌, ◌<◌, ℕ, zero, suc, ◌+◌, ◌-◌, Bool, true, false, not, ◌||◌, ◌==◌, List, [], ◌∷◌, ◌++◌, length, take, drop, get_or, map, reverse, refl, ap, ap₂, sym, ◌∙◌, append_assoc, append-nil, arith, if◌then◌else◌}
use Rattle.std.specs.Prelude.{slice_index}
use Rattle.std.specs.List.{list_any}
use Rattle.std.proofs.Math.Seq.{split_at}
use Rattle.std.proofs.lemmas.List.{drop_all, drop_more, map-append, reverse-append, take_more}
use Rattle.std.proofs.lemmas.List.Folds.{list_any-append}
use Rattle.tl_html_parts.specs.Bytes.{is_space}
use Rattle.tl_patch.specs.View.{splice_view}
use Rattle.tl_patch.specs.declared.splice.Splice.{Splice as CodeSplice}
use Rattle.tl_patch_spec.specs.Splices.{Splice}
use Rattle.tl_patch.specs.Inner.Cuts.{Cutting, cut_if, cut_splice, cuts_of, end_at, follow_cut, free_after, last_before, space_before}
use Rattle.tl_patch.specs.declared.cut.Follow.{Follow}
use Rattle.tl_patch.specs.AttributePlaces.{IsFirstNamed, attribute_found, is_named, next_stage, places_from}
use Rattle.tl_patch.specs.declared.stage.Place.{Place}
use Rattle.tl_patch.specs.declared.stage.Stage.{Stage}

pub places_more : (rest : List ℕ) (n : ℕ) (s r : Stage) (ps fs all : List Place) → n < length rest → ps ++ places_from s n (drop n rest) ≡ all →
    fs ≡ attribute_found s n (get_or rest n 0) → r ≡ next_stage s n (get_or rest n 0) →
    (ps ++ fs) ++ places_from r (n + 1) (drop (n + 1) rest) ≡ all
places_more rest n s r ps fs all l h e f =
    let b : ℕ = get_or rest n 0 in
    let one : n + 1 ≡ suc n = omega arith in
    append_assoc ps fs (places_from r (n + 1) (drop (n + 1) rest))
    ∙ ap (λ xs. ps ++ xs) (
    ap₂ (λ (xs : List Place) (q : Stage). xs ++ places_from q (n + 1) (drop (n + 1) rest)) e f
    ∙ ap (λ m. attribute_found s n b ++ places_from (next_stage s n b) m (drop (n + 1) rest)) one
    ∙ sym (ap (places_from s n) (drop_more rest n 0 l)))
    ∙ h

pub places_all : (rest : List ℕ) (n : ℕ) (s : Stage) (ps all : List Place) → length rest ≤ n → ps ++ places_from s n (drop n rest) ≡ all → ps ≡ all
places_all rest n s ps all l h =
    sym (ap (λ xs. ps ++ places_from s n xs) (drop_all n rest l) ∙ append-nil ps) ∙ h

pub none_more : (rest key : List ℕ) (ps : List Place) (n : ℕ) (d : Place) → n < length ps → list_any (is_named rest key) (take n ps) ≡ false → is_named rest key (get_or ps n d) ≡ false →
    list_any (is_named rest key) (take (n + 1) ps) ≡ false
none_more rest key ps n d l h e =
    ap (list_any (is_named rest key)) (take_more ps n d l)
    ∙ list_any-append (is_named rest key) (take n ps) (get_or ps n d ∷ [])
    ∙ ap₂ (λ (u v : Bool). u || (v || false)) h e

pub first_is : (rest key : List ℕ) (ps : List Place) (n : ℕ) (d : Place) → n < length ps → list_any (is_named rest key) (take n ps) ≡ false → is_named rest key (get_or ps n d) ≡ true →
    IsFirstNamed rest key ps (get_or ps n d)
first_is rest key ps n d l h e = record {
  before = take n ps;
  later = drop (suc n) ps;
  parts = split_at ps n d l;
  none_before = h;
  is = e;
}

-- white space, byte by byte

pub free_more : (rest : List ℕ) (n : ℕ) (d : ℕ) → n < length rest → is_space (get_or rest n d) ≡ true → free_after (drop (n + 1) rest) ≡ free_after (drop n rest)
free_more rest n d l y =
    sym (ap free_after (drop_more rest n d l) ∙ ap (λ (c : Bool). if c then free_after (drop (n + 1) rest) else not (get_or rest n d == 61)) y)

pub free_ends : (rest : List ℕ) (n : ℕ) (d : ℕ) → n < length rest → is_space (get_or rest n d) ≡ false → free_after (drop n rest) ≡ not (get_or rest n d == 61)
free_ends rest n d l y =
    ap free_after (drop_more rest n d l) ∙ ap (λ (c : Bool). if c then free_after (drop (n + 1) rest) else not (get_or rest n d == 61)) y

pub free_none : (rest : List ℕ) (n : ℕ) → length rest ≤ n → free_after (drop n rest) ≡ false
free_none rest n l = ap free_after (drop_all n rest l)

pub space_stops : (rest : List ℕ) (from start : ℕ) → from < start → is_space (slice_index rest (start - 1)) ≡ false → space_before (start - from) from rest ≡ start
space_stops rest from start l n =
    let m : start - from ≡ suc (start - suc from) = omega arith in
    let o : from + (start - suc from) ≡ start - 1 = omega arith in
    let e : from + suc (start - suc from) ≡ start = omega arith in
    ap (λ k. space_before k from rest) m
    ∙ ap (λ k. if is_space (slice_index rest k) then space_before (start - suc from) from rest else from + suc (start - suc from)) o
    ∙ ap (λ (c : Bool). if c then space_before (start - suc from) from rest else from + suc (start - suc from)) n ∙ e

pub space_more : (rest : List ℕ) (from start : ℕ) → from < start → is_space (slice_index rest (start - 1)) ≡ true → space_before ((start - 1) - from) from rest ≡ space_before (start - from) from rest
space_more rest from start l y =
    let m : start - from ≡ suc (start - suc from) = omega arith in
    let o : from + (start - suc from) ≡ start - 1 = omega arith in
    let e : (start - 1) - from ≡ start - suc from = omega arith in
    ap (λ k. space_before k from rest) e
    ∙ sym (ap (λ k. space_before k from rest) m
    ∙ ap (λ k. if is_space (slice_index rest k) then space_before (start - suc from) from rest else from + suc (start - suc from)) o
    ∙ ap (λ (c : Bool). if c then space_before (start - suc from) from rest else from + suc (start - suc from)) y)

pub space_ends : (rest : List ℕ) (from start : ℕ) → start ≤ from → space_before (start - from) from rest ≡ from
space_ends rest from start l = let m : start - from ≡ 0 = omega arith in ap (λ k. space_before k from rest) m

-- the places, from the last to the first

pub end_before : (places : List Place) (n : ℕ) (d : Place) → n < length places → last_before places (n + 1) ≡ (get_or places n d).end
end_before places n d l = let e : n + 1 ≡ suc n = omega arith in ap (last_before places) e ∙ there places n l
  where
    there : (places : List Place) (n : ℕ) → n < length places → end_at places n ≡ (get_or places n d).end
    there [] n l = absurd (omega arith)
    there (p ∷ places) zero l = refl
    there (p ∷ places) (suc n) l = there places n (omega arith)

pub cuts_more : (rest key : List ℕ) (places : List Place) (n : ℕ) (d : Place) → n < length places →
    cuts_of rest key (last_before places n) (drop n places)
    ≡ cut_if (is_named rest key (get_or places n d)) rest (last_before places n) (get_or places n d) (cuts_of rest key (last_before places (n + 1)) (drop (n + 1) places))
cuts_more rest key places n d l =
    ap (cuts_of rest key (last_before places n)) (drop_more places n d l)
    ∙ ap (λ k. cut_if (is_named rest key (get_or places n d)) rest (last_before places n) (get_or places n d) (cuts_of rest key k (drop (n + 1) places))) (sym (end_before places n d l))

-- splices that are made from the last to the first

pub view_reverse : (xs : List CodeSplice) → map splice_view (reverse xs) ≡ reverse (map splice_view xs)
view_reverse [] = refl
view_reverse (x ∷ xs) =
    ap (map splice_view) (reverse-append (x ∷ []) xs)
    ∙ map-append splice_view (reverse xs) (x ∷ [])
    ∙ ap (λ ys. ys ++ splice_view x ∷ []) (view_reverse xs)
    ∙ sym (reverse-append (splice_view x ∷ []) (map splice_view xs))

one_cut : (b : Bool) (rest : List ℕ) (last : ℕ) (p : Place) (c : Cutting) (cuts : List (Splice ℕ)) (follow : Follow) → reverse cuts ≡ c.splices → follow ≡ c.follow →
    (reverse (cuts ++ (if b then cut_splice rest last p follow ∷ [] else [])) ≡ (cut_if b rest last p c).splices)
    × ((cut_if b rest last p (record { splices = []; follow = follow })).follow ≡ (cut_if b rest last p c).follow)
one_cut true rest last p c cuts follow e f = (
  reverse-append cuts (cut_splice rest last p follow ∷ []) ∙ ap₂ (λ (u : Follow) (ys : List (Splice ℕ)). cut_splice rest last p u ∷ ys) f e,
  ap (λ (u : Follow). follow_cut rest last (cut_splice rest last p u) u) f,
)
one_cut false rest last p c cuts follow e f = (ap reverse (append-nil cuts) ∙ e, refl)

pub cuts_step : (rest key : List ℕ) (places : List Place) (m n : ℕ) (d : Place) (last : ℕ) (b : Bool) (cuts new : List (Splice ℕ)) (follow next : Follow) → m ≡ n + 1 → m ≤ length places →
    last ≡ last_before places n →
    reverse cuts ≡ (cuts_of rest key (last_before places m) (drop m places)).splices →
    follow ≡ (cuts_of rest key (last_before places m) (drop m places)).follow →
    b ≡ is_named rest key (get_or places n d) →
    new ≡ cuts ++ (if b then cut_splice rest last (get_or places n d) follow ∷ [] else []) →
    next ≡ (cut_if b rest last (get_or places n d) (record { splices = []; follow = follow })).follow →
    (reverse new ≡ (cuts_of rest key (last_before places n) (drop n places)).splices) × (next ≡ (cuts_of rest key (last_before places n) (drop n places)).follow)
cuts_step rest key places m n d last b cuts new follow next o l z e f g h k =
    let c : Cutting = cuts_of rest key (last_before places m) (drop m places) in
    let p : Place = get_or places n d in
    let here : cut_if b rest last p c ≡ cut_if (is_named rest key p) rest (last_before places n) p c = ap₂ (λ v j. cut_if v rest j p c) g z in
    let all : cut_if b rest last p c ≡ cuts_of rest key (last_before places n) (drop n places) =
    here ∙ ap (λ j. cut_if (is_named rest key p) rest (last_before places n) p (cuts_of rest key (last_before places j) (drop j places))) o
    ∙ sym (cuts_more rest key places n d (omega arith)) in
    let one = one_cut b rest last p c cuts follow e f in
    (ap reverse h ∙ one.0 ∙ ap (λ (x : Cutting). x.splices) all, k ∙ one.1 ∙ ap (λ (x : Cutting). x.follow) all)
