-- Each start tag of the balanced tokens stands in its piece, and so does each end tag that is the page's own.
use Rattle.std.proofs.Common.{◌≡◌, ℕ, suc, Bool, true, false, ◌||◌, ◌&&◌, not, ◌==◌, List, [], ◌∷◌, ◌++◌, length, map, take, drop, Some, codes, refl, ap, sym, subst, ◌∙◌, append_assoc, if◌then◌else◌}
use Rattle.std.specs.Prelude.{⊤}
use Rattle.std.specs.List.{All, AllByRecursion, Contains, slice_get}
use Rattle.std.proofs.lemmas.List.Elements.{All-from_recursion, Contains-append_left, Contains-push}
use Rattle.tl_spec.specs.Lex.ByteClass.{is_void}
use Rattle.tl_names.specs.Elements.{closed_at_once, head_parts, is_among}
use Rattle.tl_html_spec.specs.HtmlTokenizer.{HtmlAttribute, HtmlToken, Character, StartTag, EndTag, CommentToken, DoctypeToken, is_white_space}
use Rattle.tl_html_spec.specs.Balanced.{Balance, Balanced, Closing, Names, Rule, after_closing, balance, before_start, carried_out, closed_by, closing, is_dropped, is_foreign, is_head, is_one_of, is_raw, leading, nothing_more, opened, put_in, rules_before, start, then_closing, when}
use Rattle.tl_html_spec.specs.Pieces.{Piece}
use Rattle.tl_patch_spec.specs.Elements.{GivesStart, IsOfPiece, PlacedToken, StandsIn, at_piece, balance_after, balanced_at, balanced_in, balanced_pieces, is_end_tag, open_names, tokens_at}

-- what a token of a page may give
abbrev IsGiven : HtmlToken → HtmlToken → Type 0
IsGiven t (StartTag name attributes closes) = GivesStart t name attributes
IsGiven t _ = ⊤

abbrev AreGiven : HtmlToken → List HtmlToken → Type 0
AreGiven t ts = AllByRecursion (IsGiven t) ts

given_append : (t : HtmlToken) (xs ys : List HtmlToken) → AreGiven t xs → AreGiven t ys → AreGiven t (xs ++ ys)
given_append t [] ys h k = k
given_append t (x ∷ xs) ys h k = (h.0, given_append t xs ys h.1 k)

ends_given : (t : HtmlToken) (ns : Names) → AreGiven t (map EndTag ns)
ends_given t [] = tt
ends_given t (n ∷ ns) = (tt, ends_given t ns)

carried_given : (t : HtmlToken) (rules : List Rule) (ns : Names) → AreGiven t (carried_out rules ns).ends
carried_given t [] ns = tt
carried_given t (rule ∷ rules) ns =
    given_append t (map EndTag (take (rule ns) ns)) (carried_out rules (drop (rule ns) ns)).ends (ends_given t (take (rule ns) ns)) (carried_given t rules (drop (rule ns) ns))

either_closing : (b : Bool) (t : HtmlToken) (c d : Closing) → AreGiven t c.ends → AreGiven t d.ends → AreGiven t (if b then c else d).ends
either_closing true t c d h k = h
either_closing false t c d h k = k

before_given : (t : HtmlToken) (n : List ℕ) (ns : Names) → AreGiven t (before_start n ns).ends
before_given t n ns =
    let k : ℕ = when (not (is_among head_parts n || is_head n)) (leading is_head) ns in
    let first : Closing = closing k ns in
    let h : AreGiven t first.ends = ends_given t (take k ns) in
    either_closing (is_foreign first.left) t first (then_closing first (carried_out (rules_before n) first.left)) h
    (given_append t first.ends (carried_out (rules_before n) first.left).ends h (carried_given t (rules_before n) first.left))

either_balanced : (b : Bool) (t : HtmlToken) (c d : Balanced) → AreGiven t c.emits → AreGiven t d.emits → AreGiven t (if b then c else d).emits
either_balanced true t c d h k = h
either_balanced false t c d h k = k

either_tokens : (b : Bool) (t : HtmlToken) (c d : List HtmlToken) → AreGiven t c → AreGiven t d → AreGiven t (if b then c else d)
either_tokens true t c d h k = h
either_tokens false t c d h k = k

opened_given : (c : Closing) (n : List ℕ) (xs : List HtmlAttribute) (closes : Bool) → AreGiven (StartTag n xs closes) c.ends → AreGiven (StartTag n xs closes) (opened c n xs closes).emits
opened_given c n xs closes h =
    let t : HtmlToken = StartTag n xs closes in
    let tag : HtmlToken = StartTag n xs false in
    let one : AreGiven t (c.ends ++ tag ∷ []) = given_append t c.ends (tag ∷ []) h ((refl, refl), tt) in
    either_balanced (is_void n) t _ _ one
    (either_balanced (is_among closed_at_once n || (closes && not (is_raw n) && (is_foreign c.left || is_one_of (codes "svg math") n))) t _ _
    (given_append t c.ends (tag ∷ EndTag n ∷ []) h ((refl, refl), (tt, tt))) one)

balance_given : (s : Balance) (t : HtmlToken) → AreGiven t (balance s t).emits
balance_given s (Character b) =
    let k : ℕ = when (not (is_white_space b)) (leading is_head) s.open_tags in
    either_balanced ((b == 0) || (s.drops_feed && (b == 10))) (Character b) (nothing_more s) (after_closing (closing k s.open_tags) (Character b ∷ [])) tt
    (given_append (Character b) (map EndTag (take k s.open_tags)) (Character b ∷ []) (ends_given (Character b) (take k s.open_tags)) (tt, tt))
balance_given s (StartTag n xs closes) =
    either_balanced (is_dropped n s.open_tags) (StartTag n xs closes) (nothing_more s) (opened (before_start n s.open_tags) n xs closes) tt
    (opened_given (before_start n s.open_tags) n xs closes (before_given (StartTag n xs closes) n s.open_tags))
balance_given s (EndTag n) =
    let k : ℕ = closed_by n s.open_tags in
    given_append (EndTag n) (map EndTag (take k s.open_tags)) (put_in n s.open_tags) (ends_given (EndTag n) (take k s.open_tags))
    (either_tokens (is_one_of (codes "br") n) (EndTag n) (StartTag n [] false ∷ []) _ ((refl, refl), tt)
    (either_tokens _ (EndTag n) (StartTag n [] false ∷ EndTag n ∷ []) [] ((refl, refl), (tt, tt)) tt))
balance_given s (CommentToken bytes) = (tt, tt)
balance_given s DoctypeToken = tt

-- so of a piece

abbrev AreOfPiece : List Piece → List PlacedToken → Type 0
AreOfPiece ps ts = AllByRecursion (IsOfPiece ps) ts

both_of_piece : (ps : List Piece) (xs ys : List PlacedToken) → AreOfPiece ps xs → AreOfPiece ps ys → AreOfPiece ps (xs ++ ys)
both_of_piece ps [] ys h k = k
both_of_piece ps (x ∷ xs) ys h k = (h.0, both_of_piece ps xs ys h.1 k)

-- the last token, which is the page's own if that is an end tag
last_of_piece : (ps : List Piece) (place : ℕ) (t e : HtmlToken) → StandsIn ps place t → IsGiven t e → IsOfPiece ps (at_piece place (is_end_tag t) e)
last_of_piece ps place t (StartTag n xs c) h k = (t, h, k)
last_of_piece ps place (EndTag m) (EndTag n) h k = (m, h)
last_of_piece ps place (EndTag m) (Character b) h k = tt
last_of_piece ps place (EndTag m) (CommentToken bytes) h k = tt
last_of_piece ps place (EndTag m) DoctypeToken h k = tt
last_of_piece ps place (StartTag m ys d) (EndTag n) h k = tt
last_of_piece ps place (StartTag m ys d) (Character b) h k = tt
last_of_piece ps place (StartTag m ys d) (CommentToken bytes) h k = tt
last_of_piece ps place (StartTag m ys d) DoctypeToken h k = tt
last_of_piece ps place (Character c) (EndTag n) h k = tt
last_of_piece ps place (Character c) (Character b) h k = tt
last_of_piece ps place (Character c) (CommentToken bytes) h k = tt
last_of_piece ps place (Character c) DoctypeToken h k = tt
last_of_piece ps place (CommentToken c) (EndTag n) h k = tt
last_of_piece ps place (CommentToken c) (Character b) h k = tt
last_of_piece ps place (CommentToken c) (CommentToken bytes) h k = tt
last_of_piece ps place (CommentToken c) DoctypeToken h k = tt
last_of_piece ps place DoctypeToken (EndTag n) h k = tt
last_of_piece ps place DoctypeToken (Character b) h k = tt
last_of_piece ps place DoctypeToken (CommentToken bytes) h k = tt
last_of_piece ps place DoctypeToken DoctypeToken h k = tt

other_of_piece : (ps : List Piece) (place : ℕ) (t e : HtmlToken) → StandsIn ps place t → IsGiven t e → IsOfPiece ps (at_piece place false e)
other_of_piece ps place t (StartTag n xs c) h k = (t, h, k)
other_of_piece ps place t (EndTag n) h k = tt
other_of_piece ps place t (Character b) h k = tt
other_of_piece ps place t (CommentToken bytes) h k = tt
other_of_piece ps place t DoctypeToken h k = tt

at_of_piece : (ps : List Piece) (place : ℕ) (t : HtmlToken) (ts : List HtmlToken) → StandsIn ps place t → AreGiven t ts → AreOfPiece ps (tokens_at place (is_end_tag t) ts)
at_of_piece ps place t [] h k = tt
at_of_piece ps place t (e ∷ []) h k = (last_of_piece ps place t e h k.0, tt)
at_of_piece ps place t (e ∷ f ∷ ts) h k = (other_of_piece ps place t e h k.0, at_of_piece ps place t (f ∷ ts) h k.1)

stands_in : (ps : List Piece) (place : ℕ) (p : Piece) (front : List HtmlToken) (t : HtmlToken) (ts : List HtmlToken) → slice_get ps place ≡ Some p → p.tokens ≡ front ++ t ∷ ts → StandsIn ps place t
stands_in ps place p front t ts h e = record {
  piece = p;
  at = h;
  among = subst (λ xs. Contains xs t) (append_assoc front (t ∷ []) ts ∙ sym e) (Contains-append_left (front ++ t ∷ []) ts t (Contains-push front t));
}

piece_of_piece : (ps : List Piece) (place : ℕ) (p : Piece) (front ts : List HtmlToken) (s : Balance) → slice_get ps place ≡ Some p → p.tokens ≡ front ++ ts → AreOfPiece ps (balanced_at place s ts)
piece_of_piece ps place p front [] s h e = tt
piece_of_piece ps place p front (t ∷ ts) s h e =
    both_of_piece ps (tokens_at place (is_end_tag t) (balance s t).emits) (balanced_at place (balance s t).next ts)
    (at_of_piece ps place t (balance s t).emits (stands_in ps place p front t ts h e) (balance_given s t))
    (piece_of_piece ps place p (front ++ t ∷ []) ts (balance s t).next h (e ∙ sym (append_assoc front (t ∷ []) ts)))

-- a piece after others
get_seam : (front : List Piece) (p : Piece) (ps : List Piece) → slice_get (front ++ p ∷ ps) (length front) ≡ Some p
get_seam [] p ps = refl
get_seam (q ∷ front) p ps = get_seam front p ps

length_push : (front : List Piece) (p : Piece) → length (front ++ p ∷ []) ≡ suc (length front)
length_push [] p = refl
length_push (q ∷ front) p = ap (λ n. suc n) (length_push front p)

pieces_of_piece : (front ps : List Piece) (s : Balance) → AreOfPiece (front ++ ps) (balanced_in (length front) s ps)
pieces_of_piece front [] s = tt
pieces_of_piece front (p ∷ ps) s =
    both_of_piece (front ++ p ∷ ps) (balanced_at (length front) s p.tokens) (balanced_in (suc (length front)) (balance_after s p.tokens) ps)
    (piece_of_piece (front ++ p ∷ ps) (length front) p [] p.tokens s (get_seam front p ps) refl)
    (subst (λ qs. AreOfPiece qs (balanced_in (suc (length front)) (balance_after s p.tokens) ps)) (append_assoc front (p ∷ []) ps)
    (subst (λ n. AreOfPiece ((front ++ p ∷ []) ++ ps) (balanced_in n (balance_after s p.tokens) ps)) (length_push front p) (pieces_of_piece (front ++ p ∷ []) ps (balance_after s p.tokens))))

put_in_at_end : (ps : List Piece) (place : ℕ) (ns : Names) → AreOfPiece ps (tokens_at place false (map EndTag ns))
put_in_at_end ps place [] = tt
put_in_at_end ps place (n ∷ []) = (tt, tt)
put_in_at_end ps place (n ∷ m ∷ ns) = (tt, put_in_at_end ps place (m ∷ ns))

pub tokens_of_pieces : (ps : List Piece) → All (IsOfPiece ps) (balanced_pieces ps)
tokens_of_pieces ps =
    All-from_recursion (IsOfPiece ps) (balanced_pieces ps)
    (both_of_piece ps (balanced_in 0 start ps) (tokens_at (length ps) false (map EndTag (open_names ps))) (pieces_of_piece [] ps start) (put_in_at_end ps (length ps) (open_names ps)))
