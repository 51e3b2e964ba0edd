-- The tokens of a page that are written so far.
use Rattle.std.proofs.Common.{◌≡◌, ℕ, ◌+◌, ◌<◌, ◌≤◌, true, List, [], ◌∷◌, ◌++◌, length, drop, get_or, map, refl, ap, sym, subst, ◌∙◌, inl, inr, append_assoc, append-nil}
use Rattle.std.specs.List.{All}
use Rattle.std.proofs.lemmas.List.{drop_all, drop_more}
use Rattle.tl_html_tokens.specs.Whole.{bytes_at}
use Rattle.tl_html_tokens.specs.declared.token.Token.{Token}
use Rattle.tl_patch.specs.Asked.{IsOfAttribute}
use Rattle.tl_patch.specs.Inner.Steps.{AreOfAttributes, AreTagChanges, AreWritten, IsMade, IsPage, IsWritten, is_start_token, mark_of}
use Rattle.tl_patch.specs.PatchView.{PlacedChange, change_of, change_view, patch_view}
use Rattle.tl_patch.specs.declared.tag_patch.Change.{Change}
use Rattle.tl_patch.specs.declared.tag_patch.Change.TheVariants as change
use Rattle.tl_patch.specs.declared.tag_patch.TagPatch.{TagPatch}
use Rattle.tl_patch.proofs.Index.{here_of, split}

one_of : (c : Change) → IsOfAttribute (change_view c)
one_of (change.Set key value) = tt
one_of (change.Unset key) = tt

views_are : (xs : List TagPatch) → AreOfAttributes (map change_of (map patch_view xs))
views_are [] = tt
views_are (x ∷ xs) = (one_of x.change, views_are xs)

pub made_as : (here : List TagPatch) (page : List ℕ) (t : Token) (put : List ℕ) → is_start_token t ≡ true → AreTagChanges (map change_of (map patch_view here)) (bytes_at page t) put →
    IsMade (map patch_view here) page t put
made_as here page t put s m = record { start = inr s; attributes = views_are here; made = m }

pub begun : (page : List ℕ) (ts : List Token) (changes : List PlacedChange) (text : List ℕ) → text ≡ mark_of page → (rest : List ℕ) → AreWritten page ts changes rest → IsPage page ts changes (text ++ rest)
begun page ts changes text e rest w = record { bytes = rest; is = ap (λ x. x ++ rest) e; written = w }

pub one_more : (page : List ℕ) (ts : List Token) (patches : List TagPatch) (at next end : ℕ) (d : Token) (old new : List ℕ) → at < length ts → next ≤ end →
    All (λ (c : PlacedChange). c.place ≡ (get_or ts at d).start) (here_of patches next end) → IsWritten (here_of patches next end) page (get_or ts at d) old new →
    ((rest : List ℕ) → AreWritten page (drop at ts) (map patch_view (drop next patches)) rest → IsPage page ts (map patch_view patches) (old ++ rest)) →
    (rest : List ℕ) → AreWritten page (drop (at + 1) ts) (map patch_view (drop end patches)) rest → IsPage page ts (map patch_view patches) (new ++ rest)
one_more page ts patches at next end d old new l o all w f rest more =
    let here : List PlacedChange = here_of patches next end in
    let all_bytes : new ++ rest ≡ old ++ (w.put ++ rest) = ap (λ x. x ++ rest) w.is ∙ append_assoc old w.put rest in
    subst (IsPage page ts (map patch_view patches)) (sym all_bytes)
    (f (w.put ++ rest) (subst (λ xs. AreWritten page xs (map patch_view (drop next patches)) (w.put ++ rest)) (sym (drop_more ts at d l))
    (here, map patch_view (drop end patches), w.put, rest, split patches next end o, all, refl, w.made, more)))

pub all_written : (page : List ℕ) (ts : List Token) (patches : List TagPatch) (at next : ℕ) (text : List ℕ) → length ts ≤ at → length patches ≤ next →
    ((rest : List ℕ) → AreWritten page (drop at ts) (map patch_view (drop next patches)) rest → IsPage page ts (map patch_view patches) (text ++ rest)) →
    IsPage page ts (map patch_view patches) text
all_written page ts patches at next text l m f =
    subst (IsPage page ts (map patch_view patches)) (append-nil text)
    (f [] (subst (λ (xs : List Token). AreWritten page xs (map patch_view (drop next patches)) []) (sym (drop_all at ts l)) (ap (map patch_view) (drop_all next patches m), refl)))
