-- `balanced` looks at names alone.
use Rattle.std.proofs.Common.{◌≡◌, ℕ, Bool, true, false, List, [], ◌∷◌, ◌++◌, map, refl, ap, ap₂, sym, ◌∙◌, if◌then◌else◌}
use Rattle.tl_html_spec.specs.HtmlTokenizer.{EndTag, HtmlAttribute, HtmlToken, StartTag}
use Rattle.tl_spec.specs.Lex.ByteClass.{is_void}
use Rattle.tl_html_spec.specs.Balanced.{Balance, Balanced, Closing, balance, balanced, balanced_from, before_start, is_dropped, opened, start}
use Rattle.tl_patch_spec.specs.TagChanges.{without_attributes}

bare_append : (xs ys : List HtmlToken) → map without_attributes (xs ++ ys) ≡ map without_attributes xs ++ map without_attributes ys
bare_append [] ys = refl
bare_append (x ∷ xs) ys = ap (λ ts. without_attributes x ∷ ts) (bare_append xs ys)

record SameBalance (b c : Balanced) : Type 0 where
  emitted_are : map without_attributes b.emits ≡ map without_attributes c.emits
  next_is : b.next ≡ c.next

same_if : (c : Bool) (x y u v : Balanced) → SameBalance x u → SameBalance y v → SameBalance (if c then x else y) (if c then u else v)
same_if true x y u v h k = h
same_if false x y u v h k = k

after_ends : (ends xs ys : List HtmlToken) → map without_attributes xs ≡ map without_attributes ys → map without_attributes (ends ++ xs) ≡ map without_attributes (ends ++ ys)
after_ends ends xs ys e = bare_append ends xs ∙ ap (λ ts. map without_attributes ends ++ ts) e ∙ sym (bare_append ends ys)

same_tag : (ends more : List HtmlToken) (next : Balance) (n : List ℕ) (attributes : List HtmlAttribute) →
    SameBalance (record { emits = ends ++ (StartTag n attributes false ∷ more); next = next }) (record { emits = ends ++ (StartTag n [] false ∷ more); next = next })
same_tag ends more next n attributes = record {
  emitted_are = after_ends ends (StartTag n attributes false ∷ more) (StartTag n [] false ∷ more) refl;
  next_is = refl;
}

opened_same : (c : Closing) (n : List ℕ) (attributes : List HtmlAttribute) (closes : Bool) → SameBalance (opened c n attributes closes) (opened c n [] closes)
opened_same c n attributes closes =
    same_if (is_void n) _ _ _ _ (same_tag c.ends [] _ n attributes)
    (same_if _ _ _ _ _ (same_tag c.ends (EndTag n ∷ []) _ n attributes) (same_tag c.ends [] _ n attributes))

balance_bare : (s : Balance) (t : HtmlToken) → SameBalance (balance s t) (balance s (without_attributes t))
balance_bare s (StartTag n attributes closes) =
    same_if (is_dropped n s.open_tags) _ _ _ _ (record { emitted_are = refl; next_is = refl }) (opened_same (before_start n s.open_tags) n attributes closes)
balance_bare s _ = record { emitted_are = refl; next_is = refl }

balanced_bare : (s : Balance) (ts : List HtmlToken) → map without_attributes (balanced_from s ts) ≡ map without_attributes (balanced_from s (map without_attributes ts))
balanced_bare s [] = refl
balanced_bare s (t ∷ ts) =
    let b = balance_bare s t in
    bare_append (balance s t).emits (balanced_from (balance s t).next ts)
    ∙ ap₂ (λ (x y : List HtmlToken). x ++ y) b.emitted_are
    (balanced_bare (balance s t).next ts ∙ ap (λ (n : Balance). map without_attributes (balanced_from n (map without_attributes ts))) b.next_is)
    ∙ sym (bare_append (balance s (without_attributes t)).emits (balanced_from (balance s (without_attributes t)).next (map without_attributes ts)))

pub same_shape : (tokens others : List HtmlToken) → map without_attributes tokens ≡ map without_attributes others → map without_attributes (balanced tokens) ≡ map without_attributes (balanced others)
same_shape tokens others e = balanced_bare start tokens ∙ ap (λ ts. map without_attributes (balanced_from start ts)) e ∙ sym (balanced_bare start others)
