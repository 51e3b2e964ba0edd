-- What tokens do to the elements that are open.
use Rattle.std.proofs.Common.{◌≡◌, ℕ, Bool, true, false, List, [], ◌∷◌, ◌++◌, map, reverse, refl, ap, sym, ◌∙◌, append_assoc}
use Rattle.std.proofs.lemmas.List.{map-append, reverse-append}
use Rattle.tl_spec.specs.Lex.ByteClass.{is_void}
use Rattle.tl_html_spec.specs.HtmlTokenizer.{HtmlAttribute, Character, StartTag, EndTag, CommentToken}
use Rattle.tl_patch_spec.specs.Elements.{Element, OpenElement, PlacedToken, at_piece, elements_of, ended_element, open_after}
use Rattle.tl_patch_spec.proofs.Elements.{elements_append}
use Rattle.tl_patch_elements.specs.Inner.Finding.{open_view}
use Rattle.tl_patch_elements.specs.View.{element_view, elements_view}
use Rattle.tl_patch_elements.specs.declared.finder.OpenElement.{OpenElement as CodeOpenElement}
use Rattle.tl_patch_elements.specs.declared.found.Element.{Element as CodeElement}

-- one token

pub skip_character : (stack : List OpenElement) (p : ℕ) (w : Bool) (b : ℕ) (ts : List PlacedToken) → elements_of stack (at_piece p w (Character b) ∷ ts) ≡ elements_of stack ts
skip_character [] p w b ts = refl
skip_character (o ∷ stack) p w b ts = refl

pub skip_comment : (stack : List OpenElement) (p : ℕ) (w : Bool) (d : List ℕ) (ts : List PlacedToken) → elements_of stack (at_piece p w (CommentToken d) ∷ ts) ≡ elements_of stack ts
skip_comment [] p w d ts = refl
skip_comment (o ∷ stack) p w d ts = refl

pub void_ended : (stack : List OpenElement) (p : ℕ) (w : Bool) (n : List ℕ) (a : List HtmlAttribute) (c : Bool) (ts : List PlacedToken) → is_void n ≡ true →
    elements_of stack (at_piece p w (StartTag n a c) ∷ ts) ≡ ended_element (n, p) p false ∷ elements_of stack ts
void_ended [] p w n a c ts v = rw (v, elements_of) refl
void_ended (o ∷ stack) p w n a c ts v = rw (v, elements_of) refl

pub start_opened : (stack : List OpenElement) (p : ℕ) (w : Bool) (n : List ℕ) (a : List HtmlAttribute) (c : Bool) (ts : List PlacedToken) → is_void n ≡ false →
    elements_of stack (at_piece p w (StartTag n a c) ∷ ts) ≡ elements_of ((n, p) ∷ stack) ts
start_opened [] p w n a c ts v = rw (v, elements_of) refl
start_opened (o ∷ stack) p w n a c ts v = rw (v, elements_of) refl

-- both tags of an element at one place
pub pair_ended : (stack : List OpenElement) (p : ℕ) (v w : Bool) (n m : List ℕ) (a : List HtmlAttribute) (c : Bool) (ts : List PlacedToken) → is_void n ≡ false →
    elements_of stack (at_piece p v (StartTag n a c) ∷ at_piece p w (EndTag m) ∷ ts) ≡ ended_element (n, p) p w ∷ elements_of stack ts
pair_ended stack p v w n m a c ts h = start_opened stack p v n a c (at_piece p w (EndTag m) ∷ ts) h

-- what follows tokens counts by itself
pub after_front : (stack : List OpenElement) (front x y : List PlacedToken) → ((s : List OpenElement) → elements_of s x ≡ elements_of s y) →
    elements_of stack (front ++ x) ≡ elements_of stack (front ++ y)
after_front stack front x y h =
    elements_append stack front x ∙ ap (λ es. elements_of stack front ++ es) (h (open_after stack front)) ∙ sym (elements_append stack front y)

-- the innermost element ends

last_first : (front : List CodeOpenElement) (o : CodeOpenElement) → map open_view (reverse (front ++ o ∷ [])) ≡ open_view o ∷ map open_view (reverse front)
last_first front o = ap (map open_view) (reverse-append front (o ∷ []))

pub pushed : (ended : List CodeElement) (e : CodeElement) (more : List Element) → elements_view (ended ++ e ∷ []) ++ more ≡ elements_view ended ++ element_view e ∷ more
pushed ended e more =
    ap (λ es. es ++ more) (map-append element_view ended (e ∷ [])) ∙ append_assoc (elements_view ended) (element_view e ∷ []) more

pub one_ended : (all front : List CodeOpenElement) (o : CodeOpenElement) (ended now : List CodeElement) (p : ℕ) (w : Bool) (n : List ℕ) (rest : List PlacedToken) → all ≡ front ++ o ∷ [] →
    now ≡ ended ++ record { name = o.name; start = o.start; end = p; has_end_tag = w } ∷ [] →
    elements_view ended ++ elements_of (map open_view (reverse all)) (at_piece p w (EndTag n) ∷ rest) ≡ elements_view now ++ elements_of (map open_view (reverse front)) rest
one_ended all front o ended now p w n rest h e =
    let stack : List OpenElement = map open_view (reverse front) in
    ap (λ (xs : List CodeOpenElement). elements_view ended ++ elements_of (map open_view (reverse xs)) (at_piece p w (EndTag n) ∷ rest)) h
    ∙ ap (λ (xs : List OpenElement). elements_view ended ++ elements_of xs (at_piece p w (EndTag n) ∷ rest)) (last_first front o)
    ∙ sym (ap (λ (xs : List CodeElement). elements_view xs ++ elements_of stack rest) e ∙ pushed ended _ (elements_of stack rest))

pub none_ended : (all left : List CodeOpenElement) (ended : List CodeElement) (p : ℕ) (w : Bool) (n : List ℕ) (rest : List PlacedToken) → all ≡ [] → left ≡ [] →
    elements_view ended ++ elements_of (map open_view (reverse all)) (at_piece p w (EndTag n) ∷ rest) ≡ elements_view ended ++ elements_of (map open_view (reverse left)) rest
none_ended all left ended p w n rest h k =
    ap (λ (xs : List CodeOpenElement). elements_view ended ++ elements_of (map open_view (reverse xs)) (at_piece p w (EndTag n) ∷ rest)) h
    ∙ sym (ap (λ (xs : List CodeOpenElement). elements_view ended ++ elements_of (map open_view (reverse xs)) rest) k)
