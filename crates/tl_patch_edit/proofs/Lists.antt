-- Lists of parts, one by one.
use Rattle.std.proofs.Common.{◌≡◌, ℕ, zero, suc, Some, slice_get, arith, ◌+◌, ◌<◌, ◌≤◌, List, [], ◌∷◌, ◌++◌, length, take, get_or, map, refl, ap, sym, ◌∙◌, append_assoc, append-nil}
use Rattle.std.proofs.lemmas.Grind.{flat_map-append}
use Rattle.std.proofs.lemmas.List.{map-append, take_all, take_more}
use Rattle.tl_html_tokens.specs.declared.token.Token.{Token}
use Rattle.tl_patch_edit.specs.Inner.Parts.{Part, end_part, part_bytes, part_view, parts_view, view_at, with_end_part}
use Rattle.tl_patch_edit.specs.declared.part.Part.{Part as CodePart}

pub length_view : (xs : List CodePart) → length (parts_view xs) ≡ length xs
length_view [] = refl
length_view (x ∷ xs) = ap suc (length_view xs)

pub pushed : (xs : List CodePart) (x : CodePart) → parts_view (xs ++ x ∷ []) ≡ parts_view xs ++ part_view x ∷ []
pushed xs x = map-append part_view xs (x ∷ [])

pub more : (xs : List CodePart) (n : ℕ) (d : CodePart) → n < length xs → parts_view (take (n + 1) xs) ≡ parts_view (take n xs) ++ part_view (get_or xs n d) ∷ []
more xs n d l = ap parts_view (take_more xs n d l) ∙ pushed (take n xs) (get_or xs n d)

pub copied_more : (xs : List CodePart) (n : ℕ) (d : CodePart) (old now next : List Part) → n < length xs → now ≡ old ++ parts_view (take n xs) →
    next ≡ now ++ part_view (get_or xs n d) ∷ [] → next ≡ old ++ parts_view (take (n + 1) xs)
copied_more xs n d old now next l h e =
    e ∙ ap (λ u. u ++ part_view (get_or xs n d) ∷ []) h ∙ append_assoc old (parts_view (take n xs)) (part_view (get_or xs n d) ∷ []) ∙ ap (λ u. old ++ u) (sym (more xs n d l))

pub copied_all : (xs : List CodePart) (n : ℕ) (old now : List Part) → length xs ≤ n → now ≡ old ++ parts_view (take n xs) → now ≡ old ++ parts_view xs
copied_all xs n old now l h = h ∙ ap (λ (u : List CodePart). old ++ parts_view u) (take_all n xs l)

pub tokens_more : (page : List ℕ) (ts : List Token) (n : ℕ) (d : Token) (now next : List Part) → n < length ts → now ≡ map (view_at page) (take n ts) →
    next ≡ now ++ view_at page (get_or ts n d) ∷ [] → next ≡ map (view_at page) (take (n + 1) ts)
tokens_more page ts n d now next l h e =
    e ∙ ap (λ u. u ++ view_at page (get_or ts n d) ∷ []) h
    ∙ sym (ap (map (view_at page)) (take_more ts n d l) ∙ map-append (view_at page) (take n ts) (get_or ts n d ∷ []))

pub tokens_all : (page : List ℕ) (ts : List Token) (n : ℕ) (now : List Part) → length ts ≤ n → now ≡ map (view_at page) (take n ts) → now ≡ map (view_at page) ts
tokens_all page ts n now l h = h ∙ ap (map (view_at page)) (take_all n ts l)

pub bytes_append : (xs ys : List Part) → part_bytes (xs ++ ys) ≡ part_bytes xs ++ part_bytes ys
bytes_append xs ys = flat_map-append (λ (p : Part). p.bytes) xs ys

pub written_more : (xs : List CodePart) (n : ℕ) (d : CodePart) (old now next : List ℕ) → n < length xs → now ≡ old ++ part_bytes (parts_view (take n xs)) →
    next ≡ now ++ (get_or xs n d).bytes.now → next ≡ old ++ part_bytes (parts_view (take (n + 1) xs))
written_more xs n d old now next l h e =
    let one : part_bytes (part_view (get_or xs n d) ∷ []) ≡ (get_or xs n d).bytes.now = append-nil (get_or xs n d).bytes.now in
    e ∙ ap (λ u. u ++ (get_or xs n d).bytes.now) h
    ∙ append_assoc old (part_bytes (parts_view (take n xs))) (get_or xs n d).bytes.now
    ∙ ap (λ u. old ++ u) (ap (λ u. part_bytes (parts_view (take n xs)) ++ u) (sym one) ∙ sym (bytes_append (parts_view (take n xs)) (part_view (get_or xs n d) ∷ [])) ∙ ap part_bytes (sym (more xs n d l)))

pub written_all : (xs : List CodePart) (n : ℕ) (old now : List ℕ) → length xs ≤ n → now ≡ old ++ part_bytes (parts_view (take n xs)) → now ≡ old ++ part_bytes (parts_view xs)
written_all xs n old now l h = h ∙ ap (λ (u : List CodePart). old ++ part_bytes (parts_view u)) (take_all n xs l)

-- the part at which something is put

pub place_before : (xs : List CodePart) (n : ℕ) (d : CodePart) → n < length xs → slice_get (with_end_part (parts_view xs)) n ≡ Some (part_view (get_or xs n d))
place_before [] n d l = absurd (omega arith)
place_before (x ∷ xs) zero d l = refl
place_before (x ∷ xs) (suc n) d l = place_before xs n d (omega arith)

pub place_end : (xs : List CodePart) (n : ℕ) → n ≤ length xs → length xs ≤ n → slice_get (with_end_part (parts_view xs)) n ≡ Some end_part
place_end [] zero l k = refl
place_end [] (suc n) l k = absurd (omega arith)
place_end (x ∷ xs) zero l k = absurd (omega arith)
place_end (x ∷ xs) (suc n) l k = place_end xs n (omega arith) (omega arith)
