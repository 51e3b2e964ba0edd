-- The parts of a page with splices.
use Rattle.std.proofs.Common.{◌≡◌, ◌<◌, ◌≤◌, ℕ, zero, suc, ◌+◌, ◌-◌, Bool, true, false, ◌&&◌, not, List, [], ◌∷◌, ◌++◌, length, take, drop, get_or, Option, None, Some, slice_get, refl, ap, ap₂, sym, subst, ◌∙◌, append_assoc, arith}
use Rattle.std.specs.Prelude.{nat_le}
use Rattle.std.proofs.lemmas.Bool.{le-leb}
use Rattle.std.proofs.lemmas.List.{drop-drop, drop-map, length-append, take-map}
use Rattle.std.proofs.lemmas.Option.{slice_get-get_or}
use Rattle.tl_html_spec.specs.Pieces.{Piece, runs}
use Rattle.tl_patch_edit.specs.Asks.{GivePut, IsWanted, IsWantedFrom}
use Rattle.tl_patch_edit.specs.Inner.Parts.{ArePieces, IsPieceOf, Part, end_part, part_view, parts_view, separator_parts, with_end_part}
use Rattle.tl_patch_edit.specs.Inner.Seams.{HoldTexts, SameAfter, SameBefore, SameEdges, part_seam, parted}
use Rattle.tl_patch_edit.specs.Seams.{behind, first_of, is_empty, last_of, written_put}
use Rattle.tl_patch_edit.specs.declared.part.Part.{Part as CodePart}
use Rattle.tl_patch_edit.proofs.Edges.{behind_same, edges_both, last_append, none_before, pieces_edges, seam_same, separator_edges}
use Rattle.tl_patch_edit.proofs.Lists.{length_view}
use Rattle.tl_patch_edit.proofs.Said.{GivePieces, pieces_both, pieces_give}
use Rattle.tl_patch_spec.specs.Patches.{Put, separator_if, with_end}
use Rattle.tl_patch_spec.specs.Splices.{Splice, are_ordered, with_splices_from}

separator_gives : (b : Bool) → GivePieces (separator_parts b) (separator_if b)
separator_gives true = record { bytes = refl; say = ([], [], refl, refl, refl) }
separator_gives false = record { bytes = refl; say = refl }

pub take_pieces : (n : ℕ) (xs : List Part) (ps : List Piece) → ArePieces xs ps → ArePieces (take n xs) (take n ps)
take_pieces zero xs ps h = tt
take_pieces (suc n) [] [] h = tt
take_pieces (suc n) [] (p ∷ ps) h = absurd h
take_pieces (suc n) (x ∷ xs) [] h = absurd h
take_pieces (suc n) (x ∷ xs) (p ∷ ps) h = (h.0, take_pieces n xs ps h.1)

pub drop_pieces : (n : ℕ) (xs : List Part) (ps : List Piece) → ArePieces xs ps → ArePieces (drop n xs) (drop n ps)
drop_pieces zero xs ps h = h
drop_pieces (suc n) [] [] h = tt
drop_pieces (suc n) [] (p ∷ ps) h = absurd h
drop_pieces (suc n) (x ∷ xs) [] h = absurd h
drop_pieces (suc n) (x ∷ xs) (p ∷ ps) h = drop_pieces n xs ps h.1

pub record Stands (x : Part) (ps : List Piece) (n : ℕ) : Type 0 where
  pub piece : Piece
  pub stands : slice_get ps n ≡ Some piece
  pub is : IsPieceOf x piece

pub piece_at : (xs : List Part) (ps : List Piece) (n : ℕ) (d : Part) → ArePieces xs ps → n < length xs → Stands (get_or xs n d) ps n
piece_at [] ps n d h l = absurd (omega arith)
piece_at (x ∷ xs) [] n d h l = absurd h
piece_at (x ∷ xs) (p ∷ ps) zero d h l = record { piece = p; stands = refl; is = h.0 }
piece_at (x ∷ xs) (p ∷ ps) (suc n) d h l =
    let r = piece_at xs ps n d h.1 (omega arith) in
    record { piece = r.piece; stands = r.stands; is = r.is }

pub length_pieces : (xs : List Part) (ps : List Piece) → ArePieces xs ps → length ps ≡ length xs
length_pieces [] [] h = refl
length_pieces [] (p ∷ ps) h = absurd h
length_pieces (x ∷ xs) [] h = absurd h
length_pieces (x ∷ xs) (p ∷ ps) h = ap suc (length_pieces xs ps h.1)

pub end_pieces : (xs : List Part) (ps : List Piece) → ArePieces xs ps → ArePieces (with_end_part xs) (with_end ps)
end_pieces [] [] h = (record { rest = refl; bytes = refl; kind = refl; says = refl }, tt)
end_pieces [] (p ∷ ps) h = absurd h
end_pieces (x ∷ xs) [] h = absurd h
end_pieces (x ∷ xs) (p ∷ ps) h = (h.0, end_pieces xs ps h.1)

pub before_end : (xs : List Part) (n : ℕ) → n ≤ length xs → n < length (with_end_part xs)
before_end xs n l = let e = length-append xs (end_part ∷ []) in omega (arith, e)

in_order : (d f u e : ℕ) (rest : Bool) → d ≤ f → f ≤ u → u ≤ e → rest ≡ true → (nat_le d f && nat_le f u && nat_le u e && rest) ≡ true
in_order d f u e rest h i j k =
    ap₂ (λ (v w : Bool). v && w) (ap₂ (λ (v w : Bool). v && w) (ap₂ (λ (v w : Bool). v && w) (le-leb d f h) (le-leb f u i)) (le-leb u e j)) k

-- texts among some of the pieces
take_texts : (n : ℕ) (ps : List Piece) → HoldTexts ps → HoldTexts (take n ps)
take_texts zero ps h = tt
take_texts (suc n) [] h = tt
take_texts (suc n) (p ∷ ps) h = (h.0, take_texts n ps h.1)

drop_texts : (n : ℕ) (ps : List Piece) → HoldTexts ps → HoldTexts (drop n ps)
drop_texts zero ps h = h
drop_texts (suc n) [] h = tt
drop_texts (suc n) (p ∷ ps) h = drop_texts n ps h.1

abbrev between : ℕ → ℕ → List Part → List Part
between done from xs = take (from - done) (drop done xs)

-- parts up to a splice and what is put there, before the parts of what follows
pub step_wanted : (X : List Part) (x : Option Part) (done : ℕ) (ask : Splice Put) (asks : List (Splice Put)) (d : Part) (put rest : List Part) →
    done ≤ ask.from → ask.from ≤ length X → ask.from ≤ ask.until → ask.until ≤ length X → GivePut ask.put (get_or (with_end_part X) ask.from d) put →
    IsWantedFrom (last_of (last_of x (between done ask.from X)) (parted (last_of x (between done ask.from X)) put (behind X asks ask.until))) ask.until asks X rest →
    IsWantedFrom x done (ask ∷ asks) X (between done ask.from X ++ (parted (last_of x (between done ask.from X)) put (behind X asks ask.until) ++ rest))
step_wanted X x done ask asks d put rest l i o u g w = λ ps h t p before.
    let from : ℕ = ask.from in
    let until : ℕ = ask.until in
    let s : Stands (get_or (with_end_part X) from d) (with_end ps) from = piece_at (with_end_part X) (with_end ps) from d (end_pieces X ps h) (before_end X from i) in
    let r = g s.piece s.is in
    let edges : SameEdges put (runs r.0) = r.3 in
    let first : List Piece = take (from - done) (drop done ps) in
    let front : ArePieces (between done from X) first = take_pieces (from - done) (drop done X) (drop done ps) (drop_pieces done X ps h) in
    let last : SameBefore (last_of x (between done from X)) (last_of p first) =
    (pieces_edges (between done from X) first front (take_texts (from - done) (drop done ps) (drop_texts done ps t))).last x p before in
    let next : SameAfter (behind X asks until) (behind ps asks until) = behind_same X ps asks until h in
    let b : Bool = part_seam (last_of x (between done from X)) (first_of put (behind X asks until)) in
    let a : Bool = not (is_empty put) && part_seam (last_of None put) (behind X asks until) in
    let written : SameEdges (separator_parts b ++ (put ++ separator_parts a)) (written_put b r.0 a) =
    edges_both (separator_parts b) (put ++ separator_parts a) (separator_if b) (runs r.0 ++ separator_if a) (separator_edges b)
    (edges_both put (separator_parts a) (runs r.0) (separator_if a) edges (separator_edges a)) in
    let later = w ps h t (last_of (last_of p first) (written_put b r.0 a)) (written.last (last_of x (between done from X)) (last_of p first) last) in
    let splice : Splice Piece = record { from = from; until = until; put = separator_if b ++ (r.0 ++ separator_if a) } in
    let middle : GivePieces (separator_parts b ++ (put ++ separator_parts a)) splice.put =
    pieces_both (separator_parts b) (put ++ separator_parts a) (separator_if b) (r.0 ++ separator_if a) (separator_gives b)
    (pieces_both put (separator_parts a) r.0 (separator_if a) r.2 (separator_gives a)) in
    let sum : done + (until - done) ≡ until = omega arith in
    let same : drop (until - done) (drop done ps) ≡ drop until ps = drop-drop (until - done) done ps ∙ ap (λ n. drop n ps) sum in
    let back : GivePieces rest (with_splices_from until (drop (until - done) (drop done ps)) later.splices) =
    subst (λ (qs : List Piece). GivePieces rest (with_splices_from until qs later.splices)) (sym same) later.gives in
    record {
      splices = splice ∷ later.splices;
      ordered = in_order done from until (length ps) (are_ordered until (length ps) asks) l o (subst (λ n. until ≤ n) (sym (length_pieces X ps h)) u) later.ordered;
      asked = (
        record {
          asked = record {
            from = refl;
            until = refl;
            place = s.piece;
            stands = s.stands;
            put = r.0;
            are_put = r.1;
            before = b;
            after = a;
            is = refl;
          };
          before = seam_same (last_of x (between done from X)) (first_of put (behind X asks until)) (last_of p first) (first_of (runs r.0) (behind ps asks until)) last
              (edges.first (behind X asks until) (behind ps asks until) next);
          after = ap₂ (λ (e v : Bool). not e && v) edges.empty
              (seam_same (last_of None put) (behind X asks until) (last_of None (runs r.0)) (behind ps asks until) (edges.last None None none_before) next);
        },
        later.asked,
      );
      gives = pieces_both (between done from X) ((separator_parts b ++ (put ++ separator_parts a)) ++ rest) first (splice.put ++ with_splices_from until (drop (until - done) (drop done ps)) later.splices)
          (pieces_give (between done from X) first front)
          (pieces_both (separator_parts b ++ (put ++ separator_parts a)) rest splice.put (with_splices_from until (drop (until - done) (drop done ps)) later.splices) middle back);
    }

-- nothing more is asked for
pub end_wanted : (X : List Part) (x : Option Part) (done : ℕ) → IsWantedFrom x done [] X (drop done X)
end_wanted X x done = λ ps h t p s. record {
  splices = [];
  ordered = refl;
  asked = tt;
  gives = pieces_give (drop done X) (drop done ps) (drop_pieces done X ps h);
}

-- what is put, with its separators, one after the other
pub put_parted : (old one two three put : List Part) (y : Option Part) (b a : Bool) → one ≡ old ++ separator_parts b → two ≡ one ++ put → three ≡ two ++ separator_parts a →
    b ≡ part_seam (last_of None old) (first_of put y) → a ≡ (not (is_empty put) && part_seam (last_of None put) y) → three ≡ old ++ parted (last_of None old) put y
put_parted old one two three put y b a e f g h k =
    g ∙ ap (λ (xs : List Part). xs ++ separator_parts a) (f ∙ ap (λ (xs : List Part). xs ++ put) e) ∙ grouped old (separator_parts b) put (separator_parts a)
    ∙ ap₂ (λ (v w : Bool). old ++ (separator_parts v ++ (put ++ separator_parts w))) h k
  where
    grouped : (o b p a : List Part) → ((o ++ b) ++ p) ++ a ≡ o ++ (b ++ (p ++ a))
    grouped o b p a = simp append_assoc

regrouped : (old t p rest : List Part) → ((old ++ t) ++ p) ++ rest ≡ old ++ (t ++ (p ++ rest))
regrouped old t p rest = simp append_assoc

-- the same of the parts that the code has
pub step_more : (xs : List CodePart) (done : ℕ) (ask : Splice Put) (asks all : List (Splice Put)) (put old mid now : List Part) (y : Option Part) →
    done ≤ ask.from → ask.from ≤ length xs → ask.from ≤ ask.until → ask.until ≤ length xs →
    ((place : Part) → slice_get (with_end_part (parts_view xs)) ask.from ≡ Some place → GivePut ask.put place put) →
    mid ≡ old ++ parts_view (take (ask.from - done) (drop done xs)) → y ≡ behind (parts_view xs) asks ask.until → now ≡ mid ++ parted (last_of None mid) put y →
    ((rest : List Part) → IsWantedFrom (last_of None old) done (ask ∷ asks) (parts_view xs) rest → IsWanted all (parts_view xs) (old ++ rest)) →
    (rest : List Part) → IsWantedFrom (last_of None now) ask.until asks (parts_view xs) rest → IsWanted all (parts_view xs) (now ++ rest)
step_more xs done ask asks all put old mid now y l i o u g m k e h rest w =
    let X : List Part = parts_view xs in
    let inside : ask.from ≤ length X = omega (arith, length_view xs) in
    let ends : ask.until ≤ length X = omega (arith, length_view xs) in
    let front : List Part = between done ask.from X in
    let viewed : parts_view (take (ask.from - done) (drop done xs)) ≡ front = sym (ap (take (ask.from - done)) (drop-map part_view done xs) ∙ take-map part_view (ask.from - done) (drop done xs)) in
    let here : GivePut ask.put (get_or (with_end_part X) ask.from end_part) put =
    g (get_or (with_end_part X) ask.from end_part) (slice_get-get_or (with_end_part X) ask.from end_part (before_end X ask.from inside)) in
    let before : mid ≡ old ++ front = m ∙ ap (λ (t : List Part). old ++ t) viewed in
    let last : last_of None mid ≡ last_of (last_of None old) front = ap (λ (zs : List Part). last_of None zs) before ∙ last_append None old front in
    let P : List Part = parted (last_of (last_of None old) front) put (behind X asks ask.until) in
    let same : now ≡ (old ++ front) ++ P = e ∙ ap₂ (λ (zs ps : List Part). zs ++ ps) before (ap₂ (λ (v z : Option Part). parted v put z) last k) in
    let ending : last_of None now ≡ last_of (last_of (last_of None old) front) P =
    ap (λ (zs : List Part). last_of None zs) same ∙ last_append None (old ++ front) P ∙ ap (λ (v : Option Part). last_of v P) (last_append None old front) in
    let step = h (front ++ (P ++ rest)) (step_wanted X (last_of None old) done ask asks end_part put rest l inside o ends here (subst (λ (v : Option Part). IsWantedFrom v ask.until asks X rest) ending w)) in
    subst (λ (zs : List Part). IsWanted all X zs) (sym (ap (λ (zs : List Part). zs ++ rest) same ∙ regrouped old front P rest)) step

pub all_wanted : (xs : List CodePart) (done : ℕ) (all : List (Splice Put)) (old now : List Part) → now ≡ old ++ parts_view (drop done xs) →
    ((rest : List Part) → IsWantedFrom (last_of None old) done [] (parts_view xs) rest → IsWanted all (parts_view xs) (old ++ rest)) → IsWanted all (parts_view xs) now
all_wanted xs done all old now e h =
    subst (λ (zs : List Part). IsWanted all (parts_view xs) zs) (ap (λ (zs : List Part). old ++ zs) (drop-map part_view done xs) ∙ sym e)
    (h (drop done (parts_view xs)) (end_wanted (parts_view xs) (last_of None old) done))
