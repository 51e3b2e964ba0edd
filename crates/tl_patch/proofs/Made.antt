-- What becomes of one piece.
use Rattle.std.proofs.Common.{◌≡◌, ℕ, Bool, List, [], ◌∷◌, map, refl, ap₂, sym, subst, ◌∙◌}
use Rattle.tl_html_spec.specs.HtmlTokenizer.{Character, CommentToken, DoctypeToken, EndTag, HtmlToken, StartTag, data_state}
use Rattle.tl_html_spec.specs.Pieces.{piece}
use Rattle.tl_html_tokens.specs.Kinds.{IsStartTag}
use Rattle.tl_html_tokens.specs.Whole.{IsWhole}
use Rattle.tl_html_tokens.specs.declared.mode.Mode.TheVariants as mode
use Rattle.tl_patch.specs.Pages.{AreMade}
use Rattle.tl_patch.specs.Asked.{IsOfAttribute}
use Rattle.tl_patch.specs.Inner.Steps.{AreOfAttributes, AreTagChanges}
use Rattle.tl_patch_spec.specs.TagChanges.{Rename, Set, TagChange, Unset, changed_token}
use Rattle.tl_patch.specs.StartTags.{IsChanged}
use Rattle.tl_patch.proofs.KeyChanges.{whole_same}

-- the name of a start tag
abbrev pub name_in : List HtmlToken → List ℕ
name_in (StartTag name attributes closes ∷ ts) = name
name_in _ = []

-- a start tag stays one

one_stays : (c : TagChange) (n : List ℕ) (a : List (List ℕ × List ℕ)) (v : Bool) → IsStartTag (map (changed_token c) (StartTag n a v ∷ []))
one_stays (Set key value) n a v = tt
one_stays (Unset key) n a v = tt
one_stays (Rename name) n a v = tt

start_stays : (c : TagChange) (ts : List HtmlToken) → IsStartTag ts → IsStartTag (map (changed_token c) ts)
start_stays c (StartTag n a v ∷ []) h = one_stays c n a v
start_stays c [] h = absurd h
start_stays c (StartTag n a v ∷ t ∷ ts) h = absurd h
start_stays c (EndTag n ∷ ts) h = absurd h
start_stays c (Character b ∷ ts) h = absurd h
start_stays c (CommentToken n ∷ ts) h = absurd h
start_stays c (DoctypeToken ∷ ts) h = absurd h

tag_made : (cs : List TagChange) (a b : List ℕ) (ts us : List HtmlToken) → AreTagChanges cs a b → IsWhole mode.Data a ts → IsStartTag ts → IsWhole mode.Data b us →
    AreMade cs (piece data_state a ts) (piece data_state b us)
tag_made [] a b ts us m h s k =
    ap₂ (λ (x : List ℕ) (y : List HtmlToken). piece data_state x y) m (whole_same mode.Data a us ts (subst (λ x. IsWhole mode.Data x us) m k) h)
tag_made (c ∷ cs) a b ts us m h s k =
    let n : List ℕ = m.0 in
    let ch : IsChanged c a n = m.1 in
    let vs : List HtmlToken = map (changed_token c) ts in (
      piece data_state n vs,
      record { start = s; rest = refl; splices = ch.splices; bytes = ch.bytes; put = ch.put; taken = ch.taken; tokens = refl },
      tag_made cs n b vs us m.2 (ch.tokens ts h s) (start_stays c ts s) k,
    )

-- what becomes of a start tag

pub record Made (cs : List TagChange) (bytes : List ℕ) (ts : List HtmlToken) (new : List ℕ) : Type 0 where
  pub tokens : List HtmlToken
  pub whole : IsWhole mode.Data new tokens
  pub start : IsStartTag tokens
  pub name : name_in tokens ≡ name_in ts
  pub made : AreMade cs (piece data_state bytes ts) (piece data_state new tokens)

record StillMade (cs : List TagChange) (ts : List HtmlToken) (new : List ℕ) : Type 0 where
  tokens : List HtmlToken
  whole : IsWhole mode.Data new tokens
  start : IsStartTag tokens
  name : name_in tokens ≡ name_in ts

name_stays : (c : TagChange) (ts : List HtmlToken) → IsOfAttribute c → IsStartTag ts → name_in (map (changed_token c) ts) ≡ name_in ts
name_stays (Set key value) (StartTag n a v ∷ []) o h = refl
name_stays (Unset key) (StartTag n a v ∷ []) o h = refl
name_stays (Rename new) ts o h = absurd o
name_stays c [] o h = absurd h
name_stays c (StartTag n a v ∷ t ∷ ts) o h = absurd h
name_stays c (EndTag n ∷ ts) o h = absurd h
name_stays c (Character b ∷ ts) o h = absurd h
name_stays c (CommentToken n ∷ ts) o h = absurd h
name_stays c (DoctypeToken ∷ ts) o h = absurd h

still_made : (cs : List TagChange) (bytes new : List ℕ) (ts : List HtmlToken) → AreOfAttributes cs → AreTagChanges cs bytes new → IsWhole mode.Data bytes ts → IsStartTag ts → StillMade cs ts new
still_made [] bytes new ts o m h s = record { tokens = ts; whole = subst (λ x. IsWhole mode.Data x ts) (sym m) h; start = s; name = refl }
still_made (c ∷ cs) bytes new ts o m h s =
    let us : List HtmlToken = map (changed_token c) ts in
    let ch : IsChanged c bytes m.0 = m.1 in
    let r = still_made cs m.0 new us o.1 m.2 (ch.tokens ts h s) (start_stays c ts s) in
    record { tokens = r.tokens; whole = r.whole; start = r.start; name = r.name ∙ name_stays c ts o.0 s }

pub made_from : (cs : List TagChange) (bytes new : List ℕ) (ts : List HtmlToken) → AreOfAttributes cs → AreTagChanges cs bytes new → IsWhole mode.Data bytes ts → IsStartTag ts → Made cs bytes ts new
made_from cs bytes new ts o m h s =
    let r = still_made cs bytes new ts o m h s in
    record { tokens = r.tokens; whole = r.whole; start = r.start; name = r.name; made = tag_made cs bytes new ts r.tokens m h s r.whole }
