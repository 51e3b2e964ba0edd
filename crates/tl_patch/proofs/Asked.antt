-- One patch, as splices of pieces.
use Rattle.std.proofs.Common.{◌≡◌, ℕ, zero, suc, ◌+◌, ◌-◌, false, List, [], ◌∷◌, ◌++◌, length, take, drop, map, Some, refl, ap, ap₂, sym, subst, ◌∙◌, arith}
use Rattle.std.specs.Prelude.{Option}
use Rattle.std.specs.List.{All, slice_get}
use Rattle.std.proofs.lemmas.List.Elements.{All-head}
use Rattle.tl_html_spec.specs.HtmlTokenizer.{Character, CommentToken, DoctypeToken, EndTag, HtmlToken, StartTag}
use Rattle.tl_html_spec.specs.Pieces.{Piece, bytes_of, pieces, placed, runs, tokens_in}
use Rattle.tl_html_tokens.specs.Kinds.{IsStartTag}
use Rattle.tl_html_tokens.specs.Tokens.{mark_len}
use Rattle.tl_patch.specs.Asked.{IsAsAsked, IsOfAttribute, patch_of}
use Rattle.tl_patch.specs.Pages.{AreChanged, AreMade, IsChangedPiece, IsPatched}
use Rattle.tl_patch.specs.PatchView.{PlacedChange, change_of}
use Rattle.tl_patch_spec.specs.Patches.{AreAsked, Changed, Extent, IsPut, Patch, asked_by_name, change_tag, extent_in, start_name, tokens_of_piece, with_end}
use Rattle.tl_patch_spec.specs.Splices.{Splice, with_splices}
use Rattle.tl_patch_spec.specs.TagChanges.{Rename, Set, TagChange, Unset, changed_token}
use Rattle.tl_patch_spec.specs.Tail.{elements_up_to_tail}

record AreNone (xs ys : List PlacedChange) : Type 0 where
  first : xs ≡ []
  second : ys ≡ []

none_joined : (xs ys : List PlacedChange) → [] ≡ xs ++ ys → AreNone xs ys
none_joined [] ys e = record { first = refl; second = sym e }
none_joined (x ∷ xs) ys e = cc

-- without patches nothing changes
unchanged : (place : ℕ) (ps qs : List Piece) → AreChanged (placed place ps) qs [] → qs ≡ ps
unchanged place [] [] h = refl
unchanged place [] (q ∷ qs) h = absurd h
unchanged place (p ∷ ps) [] h = absurd h
unchanged place (p ∷ ps) (q ∷ qs) h =
    let e = none_joined h.0 h.1 h.2 in
    ap₂ (λ (x : Piece) (xs : List Piece). x ∷ xs)
    (subst (λ cs. AreMade (map change_of cs) p q) e.first h.4)
    (unchanged (place + length p.bytes) ps qs (subst (AreChanged (placed (place + length p.bytes) ps) qs) e.second h.5))

record IsOne (c : PlacedChange) (place : ℕ) (ps qs : List Piece) : Type 0 where
  number : ℕ
  piece : Piece
  new : Piece
  begins : slice_get (placed place ps) number ≡ Some (c.place, piece)
  stands : slice_get ps number ≡ Some piece
  made : IsChangedPiece c.change piece new
  is : qs ≡ take number ps ++ new ∷ drop (suc number) ps

later_one : (c : PlacedChange) (place : ℕ) (p q : Piece) (ps qs : List Piece) → q ≡ p → IsOne c (place + length p.bytes) ps qs → IsOne c place (p ∷ ps) (q ∷ qs)
later_one c place p q ps qs e o = record {
  number = suc o.number;
  piece = o.piece;
  new = o.new;
  begins = o.begins;
  stands = o.stands;
  made = o.made;
  is = ap₂ (λ (x : Piece) (xs : List Piece). x ∷ xs) e o.is;
}

record IsOnly (c x : PlacedChange) (xs ys : List PlacedChange) : Type 0 where
  same : x ≡ c
  first : xs ≡ []
  second : ys ≡ []

only : (c x : PlacedChange) (xs ys : List PlacedChange) → c ∷ [] ≡ (x ∷ xs) ++ ys → IsOnly c x xs ys
only c x [] ys e = record { same = cc; first = refl; second = cc }
only c x (y ∷ xs) ys e = cc

one_here : (c : PlacedChange) (place : ℕ) (p q : Piece) (ps qs : List Piece) (here later : List PlacedChange) → c ∷ [] ≡ here ++ later →
    All (λ (d : PlacedChange). d.place ≡ place) here → AreMade (map change_of here) p q → AreChanged (placed (place + length p.bytes) ps) qs later →
    (AreChanged (placed (place + length p.bytes) ps) qs (c ∷ []) → IsOne c (place + length p.bytes) ps qs) → IsOne c place (p ∷ ps) (q ∷ qs)
one_here c place p q ps qs [] later e all made rest f =
    later_one c place p q ps qs made (f (subst (AreChanged (placed (place + length p.bytes) ps) qs) (sym e) rest))
one_here c place p q ps qs (x ∷ xs) later e all made rest f =
    let o = only c x xs later e in
    let m : Piece = made.0 in
    let here : IsChangedPiece c.change p m = subst (λ (d : PlacedChange). IsChangedPiece d.change p m) o.same made.1 in
    let last : q ≡ m = subst (λ cs. AreMade (map change_of cs) m q) o.first made.2 in
    let at : x.place ≡ place = All-head (λ (d : PlacedChange). d.place ≡ place) x xs all in
    record {
      number = zero;
      piece = p;
      new = q;
      begins = ap (λ n. Some (n, p)) (sym at ∙ ap (λ (d : PlacedChange). d.place) o.same);
      stands = refl;
      made = subst (IsChangedPiece c.change p) (sym last) here;
      is = ap (λ xs. q ∷ xs) (unchanged (place + length p.bytes) ps qs (subst (AreChanged (placed (place + length p.bytes) ps) qs) o.second rest));
    }

one : (c : PlacedChange) (place : ℕ) (ps qs : List Piece) → AreChanged (placed place ps) qs (c ∷ []) → IsOne c place ps qs
one c place [] [] h = cc
one c place [] (q ∷ qs) h = absurd h
one c place (p ∷ ps) [] h = absurd h
one c place (p ∷ ps) (q ∷ qs) h = one_here c place p q ps qs h.0 h.1 h.2 h.3 h.4 h.5 (one c (place + length p.bytes) ps qs)

-- it is what is asked for

record IsNamed (ts : List HtmlToken) : Type 0 where
  name : List ℕ
  is : start_name ts ≡ Some name

named : (ts : List HtmlToken) → IsStartTag ts → IsNamed ts
named (StartTag n a v ∷ []) h = record { name = n; is = refl }
named [] h = absurd h
named (StartTag n a v ∷ t ∷ ts) h = absurd h
named (EndTag n ∷ ts) h = absurd h
named (Character b ∷ ts) h = absurd h
named (CommentToken n ∷ ts) h = absurd h
named (DoctypeToken ∷ ts) h = absurd h

asks_one : (change : TagChange) (n : ℕ) (extent : Extent) (name : List ℕ) → IsOfAttribute change →
    asked_by_name (patch_of change) n extent (Some name) ≡ Some (change_tag n change ∷ [])
asks_one (Set key value) n extent name a = refl
asks_one (Unset key) n extent name a = refl
asks_one (Rename new) n extent name a = absurd a

spliced_is : (n : ℕ) (q : Piece) (ps : List Piece) → with_splices ps (record { from = n; until = suc n; put = q ∷ [] } ∷ []) ≡ take n ps ++ q ∷ drop (suc n) ps
spliced_is n q ps =
    let a : n - 0 ≡ n = omega arith in
    let b : suc n - 0 ≡ suc n = omega arith in
    ap₂ (λ i j. take i ps ++ q ∷ drop j ps) a b

is_put : (change : TagChange) (p q : Piece) → IsOfAttribute change → q.rest ≡ p.rest → q.tokens ≡ map (changed_token change) p.tokens → IsPut p (Changed change) (q ∷ [])
is_put (Set key value) p q a r t = (q, refl, r, t)
is_put (Unset key) p q a r t = (q, refl, r, t)
is_put (Rename new) p q a r t = absurd a

stands_before : (ps : List Piece) (n : ℕ) (p : Piece) → slice_get ps n ≡ Some p → slice_get (with_end ps) n ≡ Some p
stands_before [] n p e = cc
stands_before (q ∷ ps) zero p e = e
stands_before (q ∷ ps) (suc n) p e = stands_before ps n p e

is_asked : (c : PlacedChange) (place : ℕ) (ps qs : List Piece) → IsOfAttribute c.change → (o : IsOne c place ps qs) →
    AreAsked ps o.number (patch_of c.change) (record { from = o.number; until = suc o.number; put = o.new ∷ [] } ∷ [])
is_asked c place ps qs a o =
    let patch : Patch = patch_of c.change in
    let n : ℕ = o.number in
    let extent : Extent = extent_in n (elements_up_to_tail ps) in
    let m = named (o.piece).tokens (o.made).start in (
      change_tag n c.change ∷ [],
      ap (λ (x : Option Piece). asked_by_name patch n extent (start_name (tokens_of_piece x))) o.stands
          ∙ ap (asked_by_name patch n extent) m.is
          ∙ asks_one c.change n extent m.name a,
      (
        record {
          from = refl;
          until = refl;
          place = o.piece;
          stands = stands_before ps o.number o.piece o.stands;
          put = o.new ∷ [];
          are_put = (o.new ∷ [], [], refl, is_put c.change o.piece o.new a (o.made).rest (o.made).tokens, refl);
          before = false;
          after = false;
          is = refl;
        },
        tt,
      ),
    )

pub as_asked : (c : PlacedChange) (page text : List ℕ) → IsOfAttribute c.change → IsPatched (c ∷ []) page text → IsAsAsked c page text
as_asked c page text a h =
    let ps : List Piece = runs (pieces page) in
    let o = one c (mark_len page) ps h.becomes h.changed in
    let splices : List (Splice Piece) = record { from = o.number; until = suc o.number; put = o.new ∷ [] } ∷ [] in
    let same : h.becomes ≡ with_splices ps splices = o.is ∙ sym (spliced_is o.number o.new ps) in
    record {
      number = o.number;
      piece = o.piece;
      begins = o.begins;
      splices = splices;
      asked = is_asked c (mark_len page) ps h.becomes a o;
      bytes = h.bytes ∙ ap bytes_of same;
      tokens = h.tokens ∙ ap tokens_in same;
    }
