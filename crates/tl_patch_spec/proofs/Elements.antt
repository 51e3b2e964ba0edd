-- The elements of pieces are those of the balanced tokens.
use Rattle.std.proofs.Common.{◌≡◌, ℕ, suc, Bool, true, false, not, List, [], ◌∷◌, ◌++◌, length, map, Option, Some, None, refl, ap, ap₂, sym, subst, ◌∙◌, inl, inr, append_assoc, append-nil, if◌then◌else◌, true≢false}
use Rattle.std.specs.Prelude.{⊤}
use Rattle.std.specs.List.{All, AllByRecursion, filter}
use Rattle.std.specs.Str.{bytes_eq}
use Rattle.std.proofs.lemmas.Bool.{cases_Bool}
use Rattle.std.proofs.lemmas.List.{map-append}
use Rattle.std.proofs.lemmas.List.Elements.{All-from_recursion}
use Rattle.std.proofs.lemmas.Slice.Eq.{bytes_eq-Decides}
use Rattle.tl_spec.specs.Lex.ByteClass.{is_void}
use Rattle.tl_html_spec.specs.HtmlTokenizer.{HtmlAttribute, HtmlToken, Character, StartTag, EndTag, CommentToken, DoctypeToken}
use Rattle.tl_html_spec.specs.Balanced.{Balance, Names, balance, balanced, balanced_from, left_open, start, without_innermost}
use Rattle.tl_html_spec.specs.Pieces.{Piece, tokens_in}
use Rattle.tl_html_spec.proofs.Nesting.{balanced_nest, end_closes}
use Rattle.tl_patch_spec.specs.Elements.{Element, IsAmong, IsStart, Nest, OpenElement, PlacedToken, at_piece, balance_after, balanced_at, balanced_in, balanced_pieces, elements, elements_of, end_tag, ended_element, has_content, is_end_tag, is_placed_end, open_after, open_names, token_of, tokens_at}

-- the tokens without their places

tokens_of_at : (n : ℕ) (w : Bool) (ts : List HtmlToken) → map token_of (tokens_at n w ts) ≡ ts
tokens_of_at n w [] = refl
tokens_of_at n w (t ∷ []) = refl
tokens_of_at n w (t ∷ u ∷ ts) = ap (λ us. t ∷ us) (tokens_of_at n w (u ∷ ts))

pub after_append : (s : Balance) (ts us : List HtmlToken) → balance_after s (ts ++ us) ≡ balance_after (balance_after s ts) us
after_append s [] us = refl
after_append s (t ∷ ts) us = after_append (balance s t).next ts us

tokens_of_piece : (n : ℕ) (s : Balance) (ts us : List HtmlToken) →
    map token_of (balanced_at n s ts) ++ balanced_from (balance_after s ts) us ≡ balanced_from s (ts ++ us)
tokens_of_piece n s [] us = refl
tokens_of_piece n s (t ∷ ts) us =
    let b = balance s t in
    ap (λ (xs : List HtmlToken). xs ++ balanced_from (balance_after b.next ts) us)
    (map-append token_of (tokens_at n (is_end_tag t) b.emits) (balanced_at n b.next ts) ∙ ap (λ xs. xs ++ map token_of (balanced_at n b.next ts)) (tokens_of_at n (is_end_tag t) b.emits))
    ∙ append_assoc b.emits (map token_of (balanced_at n b.next ts)) (balanced_from (balance_after b.next ts) us)
    ∙ ap (λ xs. b.emits ++ xs) (tokens_of_piece n b.next ts us)

tokens_from : (n : ℕ) (s : Balance) (ps : List Piece) →
    map token_of (balanced_in n s ps) ++ map EndTag (balance_after s (tokens_in ps)).open_tags ≡ balanced_from s (tokens_in ps)
tokens_from n s [] = refl
tokens_from n s (p ∷ ps) =
    let here : List HtmlToken = map token_of (balanced_at n s p.tokens) in
    let later : List HtmlToken = map token_of (balanced_in (suc n) (balance_after s p.tokens) ps) in
    ap₂ (λ (xs : List HtmlToken) (b : Balance). xs ++ map EndTag b.open_tags)
    (map-append token_of (balanced_at n s p.tokens) (balanced_in (suc n) (balance_after s p.tokens) ps)) (after_append s p.tokens (tokens_in ps))
    ∙ append_assoc here later (map EndTag (balance_after (balance_after s p.tokens) (tokens_in ps)).open_tags)
    ∙ ap (λ xs. here ++ xs) (tokens_from (suc n) (balance_after s p.tokens) ps)
    ∙ tokens_of_piece n s p.tokens (tokens_in ps)

pub tokens_are_balanced : (ps : List Piece) → map token_of (balanced_pieces ps) ≡ balanced (tokens_in ps)
tokens_are_balanced ps =
    map-append token_of (balanced_in 0 start ps) (tokens_at (length ps) false (map EndTag (open_names ps)))
    ∙ ap (λ xs. map token_of (balanced_in 0 start ps) ++ xs) (tokens_of_at (length ps) false (map EndTag (open_names ps)))
    ∙ tokens_from 0 start ps

-- one token among those that nest

void_left : (n : List ℕ) (xs : List HtmlAttribute) (c : Bool) (tags : Names) (us : List HtmlToken) → is_void n ≡ true → left_open tags (StartTag n xs c ∷ us) ≡ left_open tags us
void_left n xs c tags us v = rw (v, left_open) refl

start_left : (n : List ℕ) (xs : List HtmlAttribute) (c : Bool) (tags : Names) (us : List HtmlToken) → is_void n ≡ false → left_open tags (StartTag n xs c ∷ us) ≡ left_open (n ∷ tags) us
start_left n xs c tags us v = rw (v, left_open) refl

-- what is left after an end tag, by what it closes
abbrev left_by : Option Names → List HtmlToken → Option Names
left_by None us = None
left_by (Some left) us = left_open left us

end_by : (o : Option Names) (us : List HtmlToken) → elim o as (λ _. Option Names) [ None ↦ None | Some left ↦ left_open left us ] ≡ left_by o us
end_by None us = refl
end_by (Some left) us = refl

end_left : (n m : List ℕ) (tags : Names) (us : List HtmlToken) → left_open (m ∷ tags) (EndTag n ∷ us) ≡ left_by (if bytes_eq n m then Some tags else None) us
end_left n m tags us = end_by (without_innermost n (m ∷ tags)) us

-- an end tag closes the innermost name
pub record Closed (n m : List ℕ) (tags : Names) (us : List HtmlToken) (left : Names) : Type 0 where
  same : n ≡ m
  more : left_open tags us ≡ Some left

closed_if : (c : Bool) (n m : List ℕ) (tags : Names) (us : List HtmlToken) (left : Names) → bytes_eq n m ≡ c → left_by (if c then Some tags else None) us ≡ Some left → Closed n m tags us left
closed_if true n m tags us left e h = record { same = (bytes_eq-Decides n m).0 e; more = h }
closed_if false n m tags us left e h = cc

closed_name : (n m : List ℕ) (tags : Names) (us : List HtmlToken) (left : Names) → left_open (m ∷ tags) (EndTag n ∷ us) ≡ Some left → Closed n m tags us left
closed_name n m tags us left h = closed_if (bytes_eq n m) n m tags us left refl (sym (end_left n m tags us) ∙ h)

-- tokens after which just what was open before is open
abbrev LeaveOpen : List PlacedToken → Type 0
LeaveOpen ts = (tags : Names) (us : List HtmlToken) → left_open tags (map token_of ts ++ us) ≡ left_open tags us

leave_both : (ts vs : List PlacedToken) → LeaveOpen ts → LeaveOpen vs → LeaveOpen (ts ++ vs)
leave_both ts vs h k tags us =
    ap (λ xs. left_open tags (xs ++ us)) (map-append token_of ts vs)
    ∙ ap (left_open tags) (append_assoc (map token_of ts) (map token_of vs) us)
    ∙ h tags (map token_of vs ++ us) ∙ k tags us

leave_nests : (ts : List PlacedToken) → LeaveOpen ts → Nest ts
leave_nests ts h = ap (left_open []) (sym (append-nil (map token_of ts))) ∙ h [] []

-- a start tag that is open, the tokens before it and after it
record Begun (done : List PlacedToken) (o : OpenElement) (front : List PlacedToken) : Type 0 where
  first : PlacedToken
  content : List PlacedToken
  begins : IsStart o.0 o.1 first
  leave : LeaveOpen content
  parts : done ≡ front ++ first ∷ content
  stays : is_void o.0 ≡ false

-- the stack of places beside the stack of names: the start tags that the tokens so far leave open
abbrev IsStack : List PlacedToken → List OpenElement → Type 0
IsStack done [] = ⊤
IsStack done (o ∷ stack) = (front : List PlacedToken) × Begun done o front × IsStack front stack

more_content : (done ts : List PlacedToken) (stack : List OpenElement) → LeaveOpen ts → IsStack done stack → IsStack (done ++ ts) stack
more_content done ts [] h s = tt
more_content done ts (o ∷ stack) h s =
    let b = s.1 in (
      s.0,
      record {
        first = b.first;
        content = b.content ++ ts;
        begins = b.begins;
        leave = leave_both b.content ts b.leave h;
        parts = ap (λ xs. xs ++ ts) b.parts ∙ append_assoc s.0 (b.first ∷ b.content) ts;
        stays = b.stays;
      },
      s.2,
    )

abbrev names_of : List OpenElement → Names
names_of stack = map (λ (o : OpenElement). o.0) stack

whole_leaves : (first : PlacedToken) (content : List PlacedToken) (n : List ℕ) (place end : ℕ) (w : Bool) → IsStart n place first → LeaveOpen content → is_void n ≡ false →
    LeaveOpen (first ∷ (content ++ at_piece end w (EndTag n) ∷ []))
whole_leaves first content n place end w b h v tags us =
    ap (λ (t : PlacedToken). left_open tags (token_of t ∷ (map token_of (content ++ at_piece end w (EndTag n) ∷ []) ++ us))) b.is
    ∙ start_left n b.attributes b.closes tags (map token_of (content ++ at_piece end w (EndTag n) ∷ []) ++ us) v
    ∙ ap (λ xs. left_open (n ∷ tags) (xs ++ us)) (map-append token_of content (at_piece end w (EndTag n) ∷ []))
    ∙ ap (left_open (n ∷ tags)) (append_assoc (map token_of content) (EndTag n ∷ []) us)
    ∙ h (n ∷ tags) (EndTag n ∷ us)
    ∙ end_closes n tags us

none_some : {A : Type 0} (x : A) → None ≡ Some x → ⊥
none_some x h = cc

passed_text : (stack : List OpenElement) (p : ℕ) (w : Bool) (b : ℕ) (ts : List PlacedToken) → elements_of stack (at_piece p w (Character b) ∷ ts) ≡ elements_of stack ts
passed_text [] p w b ts = refl
passed_text (o ∷ stack) p w b ts = refl

passed_comment : (stack : List OpenElement) (p : ℕ) (w : Bool) (bytes : List ℕ) (ts : List PlacedToken) → elements_of stack (at_piece p w (CommentToken bytes) ∷ ts) ≡ elements_of stack ts
passed_comment [] p w bytes ts = refl
passed_comment (o ∷ stack) p w bytes ts = refl

passed_doctype : (stack : List OpenElement) (p : ℕ) (w : Bool) (ts : List PlacedToken) → elements_of stack (at_piece p w DoctypeToken ∷ ts) ≡ elements_of stack ts
passed_doctype [] p w ts = refl
passed_doctype (o ∷ stack) p w ts = refl

none_left : (stack : List OpenElement) → elements_of stack [] ≡ []
none_left [] = refl
none_left (o ∷ stack) = refl

void_passed : (stack : List OpenElement) (p : ℕ) (w : Bool) (n : List ℕ) (xs : List HtmlAttribute) (c : Bool) (ts : List PlacedToken) → is_void n ≡ true →
    elements_of stack (at_piece p w (StartTag n xs c) ∷ ts) ≡ ended_element (n, p) p false ∷ elements_of stack ts
void_passed [] p w n xs c ts v = rw (v, elements_of) refl
void_passed (o ∷ stack) p w n xs c ts v = rw (v, elements_of) refl

start_opens : (stack : List OpenElement) (p : ℕ) (w : Bool) (n : List ℕ) (xs : List HtmlAttribute) (c : Bool) (ts : List PlacedToken) → is_void n ≡ false →
    elements_of stack (at_piece p w (StartTag n xs c) ∷ ts) ≡ elements_of ((n, p) ∷ stack) ts
start_opens [] p w n xs c ts v = rw (v, elements_of) refl
start_opens (o ∷ stack) p w n xs c ts v = rw (v, elements_of) refl

-- where its start tag is open, an end tag makes an element among the tokens

pub among_void : (all done ts : List PlacedToken) (p : ℕ) (w : Bool) (n : List ℕ) (xs : List HtmlAttribute) (c : Bool) → is_void n ≡ true →
    all ≡ done ++ at_piece p w (StartTag n xs c) ∷ ts → IsAmong all (ended_element (n, p) p false)
among_void all done ts p w n xs c v e =
    let t : PlacedToken = at_piece p w (StartTag n xs c) in
    record {
      front = done;
      first = t;
      content = [];
      back = ts;
      begins = record { attributes = xs; closes = c; is_own = w; is = refl };
      nests = refl;
      ends = e ∙ ap (λ (b : Bool). done ++ t ∷ (if not b then end_tag (ended_element (n, p) p false) ∷ ts else ts)) (sym v);
      alone = λ _. (refl, refl);
    }

among_content : (all done ts front : List PlacedToken) (o : OpenElement) (p : ℕ) (w : Bool) → Begun done o front →
    all ≡ done ++ at_piece p w (EndTag o.0) ∷ ts → IsAmong all (ended_element o p w)
among_content all done ts front o p w b e =
    let t : PlacedToken = at_piece p w (EndTag o.0) in
    record {
      front = front;
      first = b.first;
      content = b.content;
      back = ts;
      begins = b.begins;
      nests = leave_nests b.content b.leave;
      ends = e ∙ ap (λ xs. xs ++ t ∷ ts) b.parts ∙ append_assoc front (b.first ∷ b.content) (t ∷ ts)
          ∙ ap (λ (c : Bool). front ++ b.first ∷ (b.content ++ (if not c then t ∷ ts else ts))) (sym b.stays);
      alone = λ f. absurd (true≢false (ap not (sym b.stays) ∙ f));
    }

closed_stack : (done front : List PlacedToken) (o : OpenElement) (stack : List OpenElement) (p : ℕ) (w : Bool) → Begun done o front → IsStack front stack →
    IsStack (done ++ at_piece p w (EndTag o.0) ∷ []) stack
closed_stack done front o stack p w b s =
    let t : PlacedToken = at_piece p w (EndTag o.0) in
    subst (λ xs. IsStack xs stack) (sym (ap (λ xs. xs ++ t ∷ []) b.parts ∙ append_assoc front (b.first ∷ b.content) (t ∷ [])))
    (more_content front (b.first ∷ (b.content ++ t ∷ [])) stack (whole_leaves b.first b.content o.0 o.1 p w b.begins b.leave b.stays) s)

abbrev AreAmong : List PlacedToken → List Element → Type 0
AreAmong all es = AllByRecursion (IsAmong all) es

among : (all done ts : List PlacedToken) (stack : List OpenElement) → all ≡ done ++ ts → IsStack done stack →
    left_open (names_of stack) (map token_of ts) ≡ Some [] → AreAmong all (elements_of stack ts)
among all done [] stack e s h = subst (AreAmong all) (sym (none_left stack)) tt
among all done (at_piece p w (StartTag n xs c) ∷ ts) stack e s h =
    let t : PlacedToken = at_piece p w (StartTag n xs c) in
    let next = e ∙ sym (append_assoc done (t ∷ []) ts) in
    elim (cases_Bool (is_void n)) [
      | inl v ↦ subst (AreAmong all) (sym (void_passed stack p w n xs c ts v)) (
        among_void all done ts p w n xs c v e,
        among all (done ++ t ∷ []) ts stack next (more_content done (t ∷ []) stack (λ tags us. void_left n xs c tags us v) s)
            (sym (void_left n xs c (names_of stack) (map token_of ts) v) ∙ h),
      )
      | inr v ↦ subst (AreAmong all) (sym (start_opens stack p w n xs c ts v)) (
          among all (done ++ t ∷ []) ts ((n, p) ∷ stack) next
          (done, record { first = t; content = []; begins = record { attributes = xs; closes = c; is_own = w; is = refl }; leave = λ _ _. refl; parts = refl; stays = v }, s)
          (sym (start_left n xs c (names_of stack) (map token_of ts) v) ∙ h))
    ]
among all done (at_piece p w (EndTag n) ∷ ts) [] e s h = absurd (none_some [] h)
among all done (at_piece p w (EndTag n) ∷ ts) (o ∷ stack) e s h =
    let k = closed_name n o.0 (names_of stack) (map token_of ts) [] h in
    let t : PlacedToken = at_piece p w (EndTag o.0) in
    let is : all ≡ done ++ t ∷ ts = e ∙ ap (λ m. done ++ at_piece p w (EndTag m) ∷ ts) k.same in (
      among_content all done ts s.0 o p w s.1 is,
      among all (done ++ t ∷ []) ts stack (is ∙ sym (append_assoc done (t ∷ []) ts)) (closed_stack done s.0 o stack p w s.1 s.2) k.more,
    )
among all done (at_piece p w (Character b) ∷ ts) stack e s h =
    let t : PlacedToken = at_piece p w (Character b) in
    subst (AreAmong all) (sym (passed_text stack p w b ts))
    (among all (done ++ t ∷ []) ts stack (e ∙ sym (append_assoc done (t ∷ []) ts)) (more_content done (t ∷ []) stack (λ _ _. refl) s) h)
among all done (at_piece p w (CommentToken bytes) ∷ ts) stack e s h =
    let t : PlacedToken = at_piece p w (CommentToken bytes) in
    subst (AreAmong all) (sym (passed_comment stack p w bytes ts))
    (among all (done ++ t ∷ []) ts stack (e ∙ sym (append_assoc done (t ∷ []) ts)) (more_content done (t ∷ []) stack (λ _ _. refl) s) h)
among all done (at_piece p w DoctypeToken ∷ ts) stack e s h =
    let t : PlacedToken = at_piece p w DoctypeToken in
    subst (AreAmong all) (sym (passed_doctype stack p w ts))
    (among all (done ++ t ∷ []) ts stack (e ∙ sym (append_assoc done (t ∷ []) ts)) (more_content done (t ∷ []) stack (λ _ _. refl) s) h)

pieces_nest : (ps : List Piece) → left_open [] (map token_of (balanced_pieces ps)) ≡ Some []
pieces_nest ps = ap (left_open []) (tokens_are_balanced ps) ∙ balanced_nest (tokens_in ps)

pub elements_among : (ps : List Piece) → All (IsAmong (balanced_pieces ps)) (elements ps)
elements_among ps =
    let ts = balanced_pieces ps in
    All-from_recursion (IsAmong ts) (elements ps) (among ts [] ts [] refl tt (pieces_nest ps))

-- each end tag ends one element

abbrev HaveContent : List OpenElement → Type 0
HaveContent stack = AllByRecursion (λ (o : OpenElement). is_void o.0 ≡ false) stack

abbrev ends_of : List Element → List PlacedToken
ends_of es = map end_tag (filter has_content es)

content_end : (o : OpenElement) (p : ℕ) (w : Bool) (es : List Element) → is_void o.0 ≡ false → ends_of (ended_element o p w ∷ es) ≡ at_piece p w (EndTag o.0) ∷ ends_of es
content_end o p w es v = rw v refl

void_end : (o : OpenElement) (p : ℕ) (w : Bool) (es : List Element) → is_void o.0 ≡ true → ends_of (ended_element o p w ∷ es) ≡ ends_of es
void_end o p w es v = rw v refl

ends_from : (ts : List PlacedToken) (stack : List OpenElement) → HaveContent stack → left_open (names_of stack) (map token_of ts) ≡ Some [] →
    ends_of (elements_of stack ts) ≡ filter is_placed_end ts
ends_from [] stack o h = ap ends_of (none_left stack)
ends_from (at_piece p w (StartTag n xs c) ∷ ts) stack o h = elim (cases_Bool (is_void n)) [
  | inl v ↦ ap ends_of (void_passed stack p w n xs c ts v) ∙ void_end (n, p) p false (elements_of stack ts) v
      ∙ ends_from ts stack o (sym (void_left n xs c (names_of stack) (map token_of ts) v) ∙ h)
  | inr v ↦ ap ends_of (start_opens stack p w n xs c ts v) ∙ ends_from ts ((n, p) ∷ stack) (v, o) (sym (start_left n xs c (names_of stack) (map token_of ts) v) ∙ h)
]
ends_from (at_piece p w (EndTag n) ∷ ts) [] o h = absurd (none_some [] h)
ends_from (at_piece p w (EndTag n) ∷ ts) (e ∷ stack) o h =
    let k = closed_name n e.0 (names_of stack) (map token_of ts) [] h in
    content_end e p w (elements_of stack ts) o.0
    ∙ ap₂ (λ m us. at_piece p w (EndTag m) ∷ us) (sym k.same) (ends_from ts stack o.1 k.more)
ends_from (at_piece p w (Character b) ∷ ts) stack o h = ap ends_of (passed_text stack p w b ts) ∙ ends_from ts stack o h
ends_from (at_piece p w (CommentToken bytes) ∷ ts) stack o h = ap ends_of (passed_comment stack p w bytes ts) ∙ ends_from ts stack o h
ends_from (at_piece p w DoctypeToken ∷ ts) stack o h = ap ends_of (passed_doctype stack p w ts) ∙ ends_from ts stack o h

pub elements_end : (ps : List Piece) → map end_tag (filter has_content (elements ps)) ≡ filter is_placed_end (balanced_pieces ps)
elements_end ps = ends_from (balanced_pieces ps) [] tt (pieces_nest ps)

-- what is open in between

left_cut : (ns ms : Names) (ts us : List HtmlToken) → left_open ns (ts ++ us) ≡ Some ms → (mid : Names) × (left_open ns ts ≡ Some mid) × (left_open mid us ≡ Some ms)
left_cut ns ms [] us h = (ns, refl, h)
left_cut ns ms (StartTag n xs c ∷ ts) us h = left_cut (if is_void n then ns else n ∷ ns) ms ts us h
left_cut [] ms (EndTag n ∷ ts) us h = absurd (none_some ms h)
left_cut (m ∷ ns) ms (EndTag n ∷ ts) us h =
    let k = closed_name n m ns (ts ++ us) ms h in
    let later = left_cut ns ms ts us k.more in
    (later.0, ap (λ w. left_open (m ∷ ns) (EndTag w ∷ ts)) k.same ∙ end_closes m ns ts ∙ later.1, later.2)
left_cut ns ms (Character b ∷ ts) us h = left_cut ns ms ts us h
left_cut ns ms (CommentToken bytes ∷ ts) us h = left_cut ns ms ts us h
left_cut ns ms (DoctypeToken ∷ ts) us h = left_cut ns ms ts us h

ends_name_all : (ns ms : Names) → left_open ns (map EndTag ms) ≡ Some [] → ns ≡ ms
ends_name_all [] [] h = refl
ends_name_all (n ∷ ns) [] h = cc
ends_name_all [] (m ∷ ms) h = absurd (none_some [] h)
ends_name_all (n ∷ ns) (m ∷ ms) h =
    let k = closed_name m n ns (map EndTag ms) [] h in
    ap₂ (λ (x : List ℕ) (xs : Names). x ∷ xs) (sym k.same) (ends_name_all ns ms k.more)

opened_names : (c : Bool) (n : List ℕ) (p : ℕ) (stack : List OpenElement) → names_of (if c then stack else (n, p) ∷ stack) ≡ (if c then names_of stack else n ∷ names_of stack)
opened_names true n p stack = refl
opened_names false n p stack = refl

names_open : (ts : List PlacedToken) (stack : List OpenElement) (left : Names) → left_open (names_of stack) (map token_of ts) ≡ Some left → names_of (open_after stack ts) ≡ left
names_open [] [] left h = cc
names_open [] (o ∷ stack) left h = cc
names_open (at_piece p w (StartTag n xs c) ∷ ts) [] left h =
    names_open ts (if is_void n then [] else (n, p) ∷ []) left (ap (λ ns. left_open ns (map token_of ts)) (opened_names (is_void n) n p []) ∙ h)
names_open (at_piece p w (StartTag n xs c) ∷ ts) (o ∷ stack) left h =
    names_open ts (if is_void n then o ∷ stack else (n, p) ∷ (o ∷ stack)) left (ap (λ ns. left_open ns (map token_of ts)) (opened_names (is_void n) n p (o ∷ stack)) ∙ h)
names_open (at_piece p w (EndTag n) ∷ ts) [] left h = absurd (none_some left h)
names_open (at_piece p w (EndTag n) ∷ ts) (o ∷ stack) left h =
    names_open ts stack left (closed_name n o.0 (names_of stack) (map token_of ts) left h).more
names_open (at_piece p w (Character b) ∷ ts) [] left h = names_open ts [] left h
names_open (at_piece p w (Character b) ∷ ts) (o ∷ stack) left h = names_open ts (o ∷ stack) left h
names_open (at_piece p w (CommentToken bytes) ∷ ts) [] left h = names_open ts [] left h
names_open (at_piece p w (CommentToken bytes) ∷ ts) (o ∷ stack) left h = names_open ts (o ∷ stack) left h
names_open (at_piece p w DoctypeToken ∷ ts) [] left h = names_open ts [] left h
names_open (at_piece p w DoctypeToken ∷ ts) (o ∷ stack) left h = names_open ts (o ∷ stack) left h

pub open_elements : (ps : List Piece) → map (λ (o : OpenElement). o.0) (open_after [] (balanced_in 0 start ps)) ≡ open_names ps
open_elements ps =
    let cut = left_cut [] [] (map token_of (balanced_in 0 start ps)) (map EndTag (open_names ps))
    (ap (left_open []) (tokens_from 0 start ps) ∙ balanced_nest (tokens_in ps)) in
    names_open (balanced_in 0 start ps) [] (open_names ps) (cut.1 ∙ ap (λ ns. Some ns) (ends_name_all cut.0 (open_names ps) cut.2))

-- elements end in turn

void_after : (stack : List OpenElement) (p : ℕ) (w : Bool) (n : List ℕ) (xs : List HtmlAttribute) (c : Bool) (ts : List PlacedToken) → is_void n ≡ true →
    open_after stack (at_piece p w (StartTag n xs c) ∷ ts) ≡ open_after stack ts
void_after [] p w n xs c ts v = rw (v, open_after) refl
void_after (o ∷ stack) p w n xs c ts v = rw (v, open_after) refl

start_after : (stack : List OpenElement) (p : ℕ) (w : Bool) (n : List ℕ) (xs : List HtmlAttribute) (c : Bool) (ts : List PlacedToken) → is_void n ≡ false →
    open_after stack (at_piece p w (StartTag n xs c) ∷ ts) ≡ open_after ((n, p) ∷ stack) ts
start_after [] p w n xs c ts v = rw (v, open_after) refl
start_after (o ∷ stack) p w n xs c ts v = rw (v, open_after) refl

pub elements_append : (stack : List OpenElement) (ts us : List PlacedToken) → elements_of stack (ts ++ us) ≡ elements_of stack ts ++ elements_of (open_after stack ts) us
elements_append [] [] us = refl
elements_append (o ∷ stack) [] us = refl
elements_append stack (at_piece p w (StartTag n xs c) ∷ ts) us = elim (cases_Bool (is_void n)) [
  | inl v ↦ void_passed stack p w n xs c (ts ++ us) v ∙ ap (λ es. ended_element (n, p) p false ∷ es) (elements_append stack ts us)
      ∙ sym (ap₂ (λ (es : List Element) (os : List OpenElement). es ++ elements_of os us) (void_passed stack p w n xs c ts v) (void_after stack p w n xs c ts v))
  | inr v ↦ start_opens stack p w n xs c (ts ++ us) v ∙ elements_append ((n, p) ∷ stack) ts us
      ∙ sym (ap₂ (λ (es : List Element) (os : List OpenElement). es ++ elements_of os us) (start_opens stack p w n xs c ts v) (start_after stack p w n xs c ts v))
]
elements_append [] (at_piece p w (EndTag n) ∷ ts) us = elements_append [] ts us
elements_append (o ∷ stack) (at_piece p w (EndTag n) ∷ ts) us = ap (λ es. ended_element o p w ∷ es) (elements_append stack ts us)
elements_append [] (at_piece p w (Character b) ∷ ts) us = elements_append [] ts us
elements_append (o ∷ stack) (at_piece p w (Character b) ∷ ts) us = elements_append (o ∷ stack) ts us
elements_append [] (at_piece p w (CommentToken bytes) ∷ ts) us = elements_append [] ts us
elements_append (o ∷ stack) (at_piece p w (CommentToken bytes) ∷ ts) us = elements_append (o ∷ stack) ts us
elements_append [] (at_piece p w DoctypeToken ∷ ts) us = elements_append [] ts us
elements_append (o ∷ stack) (at_piece p w DoctypeToken ∷ ts) us = elements_append (o ∷ stack) ts us
