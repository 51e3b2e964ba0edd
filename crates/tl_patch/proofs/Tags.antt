-- A tag with changes one after the other.
use Rattle.std.proofs.Common.{◌≡◌, ℕ, zero, suc, ◌+◌, ◌<◌, ◌≤◌, ◌&&◌, Bool, true, false, not, List, [], ◌∷◌, length, drop, get_or, map, refl, sym, subst, true≢false, arith, Option, Some, None, Result, Ok, IfOk, IfSome, is_some}
use Rattle.std.proofs.lemmas.List.{drop_all, drop_more}
use Rattle.tl_patch.specs.Inner.Steps.{AreTagChanges}
use Rattle.tl_patch.specs.PatchView.{change_of, change_view, patch_view}
use Rattle.tl_patch.specs.declared.tag_patch.TagPatch.{TagPatch}
use Rattle.tl_html_spec.specs.HtmlTokenizer.{Character, CommentToken, DoctypeToken, EndTag, HtmlToken, StartTag}
use Rattle.tl_html_tokens.specs.Kinds.{IsStartTag}
use Rattle.tl_patch.specs.Refused.{has_refused, is_refused}
use Rattle.tl_patch_spec.specs.Markup.{is_key, is_without_nul}
use Rattle.tl_patch_spec.specs.TagChanges.{Rename, Set, TagChange, Unset, changed_token}
use Rattle.tl_patch_spec.proofs.Sets.{neither}
use Rattle.tl_patch.specs.StartTags.{IsChanged, IsStartTagAlone, is_start_tag}
use Rattle.tl_patch.proofs.Begins.{start_alone, whole_start_tag}

abbrev pub AreMadeFrom : List TagPatch → ℕ → List ℕ → List ℕ → Type 0
AreMadeFrom patches at tag new = AreTagChanges (map change_of (map patch_view (drop at patches))) tag new

pub tag_step : (patches : List TagPatch) (at : ℕ) (d : TagPatch) (tag now next : List ℕ) → at < length patches → IsChanged (change_view (get_or patches at d).change) now next →
    ((new : List ℕ) → AreMadeFrom patches at now new → AreMadeFrom patches 0 tag new) →
    (new : List ℕ) → AreMadeFrom patches (at + 1) next new → AreMadeFrom patches 0 tag new
tag_step patches at d tag now next l ch f new h =
    f new (subst (λ ps. AreTagChanges (map change_of (map patch_view ps)) now new) (sym (drop_more patches at d l)) (next, ch, h))

pub tag_end : (patches : List TagPatch) (at : ℕ) (now : List ℕ) → length patches ≤ at → AreMadeFrom patches at now now
tag_end patches at now l = subst (λ ps. AreTagChanges (map change_of (map patch_view ps)) now now) (sym (drop_all at patches l)) refl

-- what is said of what is found, of that
pub some_of : {A : Type 0} (f : Option A) (x : A) (P : A → Type 0) → f ≡ Some x → IfSome f P → P x
some_of f x P e h = subst (λ o. IfSome o P) e h

-- a start tag stays one

start_changed : (change : TagChange) (ts : List HtmlToken) → IsStartTag ts → IsStartTag (map (changed_token change) ts)
start_changed (Set key value) (StartTag n a c ∷ []) h = tt
start_changed (Unset key) (StartTag n a c ∷ []) h = tt
start_changed (Rename name) (StartTag n a c ∷ []) h = tt
start_changed change [] h = absurd h
start_changed change (StartTag n a c ∷ t ∷ ts) h = absurd h
start_changed change (EndTag n ∷ ts) h = absurd h
start_changed change (Character b ∷ ts) h = absurd h
start_changed change (CommentToken n ∷ ts) h = absurd h
start_changed change (DoctypeToken ∷ ts) h = absurd h

pub start_stays : (change : TagChange) (tag new : List ℕ) → IsChanged change tag new → is_start_tag tag ≡ true → is_start_tag new ≡ true
start_stays change tag new c h =
    let a : IsStartTagAlone tag = start_alone tag h in
    whole_start_tag new (map (changed_token change) a.tokens) (c.tokens a.tokens a.whole a.start) (start_changed change a.tokens a.start)

-- a key gets a value wherever both can be written

pub written : (key value tag : List ℕ) → is_start_tag tag ≡ true → not (is_key key && is_without_nul value) ≡ false → (is_key key && (is_without_nul value && is_start_tag tag)) ≡ true
written key value tag s n = both (is_key key) (is_without_nul value) n
  where
    both : (x y : Bool) → not (x && y) ≡ false → (x && (y && is_start_tag tag)) ≡ true
    both true true n = s
    both true false n = absurd (true≢false n)
    both false y n = absurd (true≢false n)

pub none_refused : (patches : List TagPatch) (at : ℕ) (d : TagPatch) → at < length patches → has_refused (map patch_view patches) ≡ false → is_refused (change_view (get_or patches at d).change) ≡ false
none_refused [] at d l h = absurd (omega arith)
none_refused (p ∷ patches) zero d l h = (neither (is_refused (change_view p.change)) (has_refused (map patch_view patches)) h).0
none_refused (p ∷ patches) (suc at) d l h = none_refused patches at d (omega arith) (neither (is_refused (change_view p.change)) (has_refused (map patch_view patches)) h).1

-- where nothing is found, one of the changes is refused
