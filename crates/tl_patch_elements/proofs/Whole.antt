-- The tokens of a page one by one.
use Rattle.std.proofs.Common.{◌≡◌, ◌≤◌, ◌<◌, ℕ, zero, suc, ◌+◌, Bool, false, List, [], ◌∷◌, ◌++◌, length, drop, get_or, map, refl, ap, ap₂, sym, subst, ◌∙◌, append_assoc, append-nil, add-one}
use Rattle.std.proofs.lemmas.List.{drop_all, drop_more}
use Rattle.tl_html_spec.specs.HtmlTokenizer.{EndTag, HtmlToken}
use Rattle.tl_html_spec.specs.Balanced.{Balance, Names, start}
use Rattle.tl_html_spec.specs.Pieces.{Piece, pieces, runs, tokens_in}
use Rattle.tl_html_tokens.specs.Tokens.{AreTokensOf, mark_len}
use Rattle.tl_html_tokens.specs.declared.token.Token.{Token}
use Rattle.tl_html_tokens.proofs.Alone.{tags_are_whole}
use Rattle.tl_html_tokens.proofs.Telling.{tokens_said}
use Rattle.tl_html_balance.specs.View.{open_names}
use Rattle.tl_patch_elements.specs.Inner.Parts.{AreParts, IsPart}
use Rattle.tl_patch_elements.proofs.Said.{are_parts, parts_of}
use Rattle.tl_patch_spec.specs.Elements.{PlacedToken, balance_after, balanced_at, balanced_in, elements, elements_of, tokens_at}
use Rattle.tl_patch_spec.specs.Elements.{open_names as left_names}
use Rattle.tl_patch_spec.proofs.Elements.{after_append}
use Rattle.tl_patch_elements.specs.Inner.Finding.{Finds, balance_of, elements_with}
use Rattle.tl_patch_elements.specs.View.{elements_view}
use Rattle.tl_patch_elements.specs.declared.finder.Finder.{Finder}

abbrev pub pieces_in : List ℕ → List Piece
pieces_in page = runs (pieces page)

-- how far a page has been gone over: what is left gives the rest
pub record Left (page : List ℕ) (tokens : List Token) (f : Finder) (at : ℕ) : Type 0 where
  pub feed : Bool
  pub parts : AreParts page (drop at tokens) (parts_of (drop at (pieces_in page)))
  pub found : (rest : List PlacedToken) →
      elements_with f (balanced_in at (balance_of f feed) (drop at (pieces_in page)) ++ rest)
      ≡ elements_of [] (balanced_in 0 start (pieces_in page) ++ rest)
  pub names : (balance_after (balance_of f feed) (tokens_in (drop at (pieces_in page)))).open_tags ≡ left_names (pieces_in page)

pub none_done : (page : List ℕ) (tokens : List Token) (f : Finder) → AreTokensOf page tokens → open_names f.open_tags ≡ [] →
    ((rest : List PlacedToken) → elements_with f rest ≡ elements_of [] rest) → Left page tokens f 0
none_done page tokens f h n e =
    let ps : List Piece = pieces_in page in
    let s : balance_of f false ≡ start = ap (λ (names : Names). record { open_tags = names; drops_feed = false }) n in
    record {
      feed = false;
      parts = are_parts page tokens (mark_len page) ps h (tokens_said page tokens h) (tags_are_whole page tokens h);
      found = λ rest. e (balanced_in 0 (balance_of f false) ps ++ rest) ∙ ap (λ (b : Balance). elements_of [] (balanced_in 0 b ps ++ rest)) s;
      names = ap (λ (b : Balance). (balance_after b (tokens_in ps)).open_tags) s;
    }

-- the next piece

record Next (page : List ℕ) (t : Token) (ts : List Token) (left more : List Piece) : Type 0 where
  piece : Piece
  is : left ≡ piece ∷ more
  part : IsPart page t piece.tokens
  parts : AreParts page ts (parts_of more)

next_in : (page : List ℕ) (t : Token) (ts : List Token) (ps : List Piece) (at : ℕ) → AreParts page (t ∷ ts) (parts_of (drop at ps)) → Next page t ts (drop at ps) (drop (suc at) ps)
next_in page t ts [] zero h = absurd h
next_in page t ts [] (suc at) h = absurd h
next_in page t ts (p ∷ ps) zero h = record { piece = p; is = refl; part = h.0; parts = h.1 }
next_in page t ts (p ∷ ps) (suc at) h = next_in page t ts ps at h

next_piece : (page : List ℕ) (tokens : List Token) (at : ℕ) (d : Token) (ps : List Piece) → at < length tokens → AreParts page (drop at tokens) (parts_of (drop at ps)) →
    Next page (get_or tokens at d) (drop (at + 1) tokens) (drop at ps) (drop (suc at) ps)
next_piece page tokens at d ps l h =
    next_in page (get_or tokens at d) (drop (at + 1) tokens) ps at (subst (λ (ts : List Token). AreParts page ts (parts_of (drop at ps))) (drop_more tokens at d l) h)

step_done : (page : List ℕ) (tokens : List Token) (at : ℕ) (t : Token) (f g : Finder) (l : Left page tokens f at) → Next page t (drop (at + 1) tokens) (drop at (pieces_in page)) (drop (suc at) (pieces_in page)) →
    ((ts : List HtmlToken) → IsPart page t ts → Finds f g at ts) → Left page tokens g (at + 1)
step_done page tokens at t f g l n h =
    let ps : List Piece = pieces_in page in
    let s : Balance = balance_of f l.feed in
    let p : Piece = n.piece in
    let more : List Piece = drop (suc at) ps in
    let finds : Finds f g at p.tokens = h p.tokens n.part in
    let b : Balance = balance_after s p.tokens in
    let same : b ≡ balance_of g b.drops_feed = ap (λ (names : Names). record { open_tags = names; drops_feed = b.drops_feed }) (finds.names l.feed) in
    let next : at + 1 ≡ suc at = add-one at in
    record {
      feed = b.drops_feed;
      parts = subst (λ i. AreParts page (drop (at + 1) tokens) (parts_of (drop i ps))) (sym next) n.parts;
      found = λ rest.
          ap (λ i. elements_with g (balanced_in i (balance_of g b.drops_feed) (drop i ps) ++ rest)) next
          ∙ ap (λ (x : Balance). elements_with g (balanced_in (suc at) x more ++ rest)) (sym same)
          ∙ sym (finds.elements l.feed (balanced_in (suc at) b more ++ rest))
          ∙ ap (elements_with f) (sym (append_assoc (balanced_at at s p.tokens) (balanced_in (suc at) b more) rest))
          ∙ ap (λ (xs : List Piece). elements_with f (balanced_in at s xs ++ rest)) (sym n.is)
          ∙ l.found rest;
      names =
          ap (λ i. (balance_after (balance_of g b.drops_feed) (tokens_in (drop i ps))).open_tags) next
          ∙ ap (λ (x : Balance). (balance_after x (tokens_in more)).open_tags) (sym same)
          ∙ ap (λ (x : Balance). x.open_tags) (sym (after_append s p.tokens (tokens_in more)))
          ∙ ap (λ (xs : List Piece). (balance_after s (tokens_in xs)).open_tags) (sym n.is)
          ∙ l.names;
    }

pub one_done : (page : List ℕ) (tokens : List Token) (at : ℕ) (d : Token) (f g : Finder) → at < length tokens → Left page tokens f at →
    ((ts : List HtmlToken) → IsPart page (get_or tokens at d) ts → Finds f g at ts) → Left page tokens g (at + 1)
one_done page tokens at d f g m l h = step_done page tokens at (get_or tokens at d) f g l (next_piece page tokens at d (pieces_in page) m l.parts) h

-- where a token stands
pub part_places : (page : List ℕ) (tokens : List Token) (at : ℕ) (d : Token) (f : Finder) → at < length tokens → Left page tokens f at →
    ((get_or tokens at d).start ≤ (get_or tokens at d).end) × ((get_or tokens at d).end ≤ length page)
part_places page tokens at d f m l =
    let n = next_piece page tokens at d (pieces_in page) m l.parts in
    (n.part.order, n.part.within)

-- at the end

none_more : (page : List ℕ) (ps : List Piece) → AreParts page [] (parts_of ps) → ps ≡ []
none_more page [] h = refl
none_more page (p ∷ ps) h = absurd h

lengths : (page : List ℕ) (ts : List Token) (ps : List Piece) → AreParts page ts (parts_of ps) → length ts ≡ length ps
lengths page [] [] h = refl
lengths page [] (p ∷ ps) h = absurd h
lengths page (t ∷ ts) [] h = absurd h
lengths page (t ∷ ts) (p ∷ ps) h = ap suc (lengths page ts ps h.1)

pub all_done : (page : List ℕ) (tokens : List Token) (at : ℕ) (f g : Finder) → AreTokensOf page tokens → length tokens ≤ at → Left page tokens f at →
    ((rest : List PlacedToken) → elements_with f (tokens_at (length tokens) false (map EndTag (open_names f.open_tags)) ++ rest) ≡ elements_with g rest) →
    elements_view g.ended.items ≡ elements (pieces_in page)
all_done page tokens at f g a m l h =
    let ps : List Piece = pieces_in page in
    let none : drop at ps ≡ [] = none_more page (drop at ps) (subst (λ (ts : List Token). AreParts page ts (parts_of (drop at ps))) (drop_all at tokens m) l.parts) in
    let len : length tokens ≡ length ps =
    lengths page tokens ps (are_parts page tokens (mark_len page) ps a (tokens_said page tokens a) (tags_are_whole page tokens a)) in
    let names : open_names f.open_tags ≡ left_names ps =
    ap (λ (xs : List Piece). (balance_after (balance_of f l.feed) (tokens_in xs)).open_tags) (sym none) ∙ l.names in
    let ends : List PlacedToken = tokens_at (length ps) false (map EndTag (left_names ps)) in
    sym (append-nil (elements_view g.ended.items))
    ∙ sym (h [])
    ∙ ap₂ (λ (n : ℕ) (xs : Names). elements_with f (tokens_at n false (map EndTag xs) ++ [])) len names
    ∙ ap (elements_with f) (append-nil ends)
    ∙ ap (λ (xs : List Piece). elements_with f (balanced_in at (balance_of f l.feed) xs ++ ends)) (sym none)
    ∙ l.found ends
