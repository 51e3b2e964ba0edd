-- End tags by themselves, and markup.
use Rattle.std.proofs.Common.{◌≡◌, ℕ, ◌&&◌, Bool, true, false, List, [], ◌∷◌, ◌++◌, drop, Option, Some, None, ap, sym, subst, subst₂, ◌∙◌, true≢false, refl, codes, append_assoc, if◌then◌else◌}
use Rattle.std.specs.Prelude.{is_some}
use Rattle.std.proofs.lemmas.Bool.{and_parts}
use Rattle.tl_html_spec.specs.HtmlTokenizer.{EndTag, without_mark}
use Rattle.tl_html_spec.specs.Pieces.{bytes_of, pieces, pieces_of, runs}
use Rattle.tl_html_spec.proofs.Cutting.{runs_bytes}
use Rattle.tl_html_tokens.specs.Whole.{IsWhole}
use Rattle.tl_html_tokens.specs.declared.mode.Mode.{Mode}
use Rattle.tl_html_tokens.specs.declared.mode.Mode.TheVariants as mode
use Rattle.tl_html_tokens.specs.declared.stage.TokenKind.{TokenKind}
use Rattle.tl_patch.specs.Places.{IsRenamed, begins_end_tag}
use Rattle.tl_patch_spec.specs.Markup.{is_name}
use Rattle.tl_patch.proofs.EndNames.{end_tag_whole, renamed_bytes, renamed_whole}
use Rattle.tl_patch_edit.specs.Asks.{IsEndTagOf, IsRenamedEnd}
use Rattle.tl_patch_edit.specs.Inner.Causes.{begins_as}
use Rattle.tl_patch_edit.specs.Found.{has_mark}
use Rattle.tl_patch_edit.specs.Inner.Parts.{ArePieces, Give, Part, is_data}
use Rattle.tl_patch_edit.specs.Sayings.{Saying, sayings}
use Rattle.tl_patch_edit.specs.Inner.Seams.{SameEdges}
use Rattle.tl_patch_edit.proofs.Edges.{pieces_edges}
use Rattle.tl_patch_edit.proofs.Texts.{page_texts}
use Rattle.tl_patch_edit.proofs.Said.{pieces_give}
use Rattle.tl_patch_edit.proofs.Sayings.{runs_said}

pub mode_is : (m : Mode) → is_data m ≡ true → m ≡ mode.Data
mode_is mode.Data h = refl
mode_is _ h = absurd (true≢false (sym h))

-- markup that begins with no byte order mark

unmarked : (markup : List ℕ) → has_mark markup ≡ false → without_mark markup ≡ markup
unmarked markup h = ap (λ (v : Bool). if v then drop 3 markup else markup) h

pub markup_gives : (markup : List ℕ) (parts : List Part) → has_mark markup ≡ false → ArePieces parts (runs (pieces markup)) → Give parts (bytes_of (pieces_of markup)) (sayings (pieces_of markup))
markup_gives markup parts h a =
    let is : pieces markup ≡ pieces_of markup = ap pieces_of (unmarked markup h) in
    subst₂ (λ (b : List ℕ) (ss : List Saying). Give parts b ss)
    (runs_bytes (pieces markup) ∙ ap bytes_of is) (runs_said (pieces markup) ∙ ap sayings is) (pieces_give parts (runs (pieces markup)) a)

pub markup_edges : (markup : List ℕ) (parts : List Part) → has_mark markup ≡ false → ArePieces parts (runs (pieces markup)) → SameEdges parts (runs (pieces_of markup))
markup_edges markup parts h a =
    subst (λ (text : List ℕ). SameEdges parts (runs (pieces_of text))) (unmarked markup h) (pieces_edges parts (runs (pieces markup)) a (page_texts (without_mark markup)))

-- the end tag of a name, written

pub tag_is : (name none one two three : List ℕ) → none ≡ [] → one ≡ none ++ codes "</" → two ≡ one ++ name → three ≡ two ++ codes ">" → is_name name ≡ true → IsEndTagOf name three
tag_is name none one two three n a b c h =
    let is : three ≡ codes "</" ++ (name ++ codes ">") =
    c ∙ ap (λ x. x ++ codes ">") (b ∙ ap (λ x. x ++ name) (a ∙ ap (λ x. x ++ codes "</") n)) ∙ append_assoc (codes "</") name (codes ">") in
    record { is = is; whole = subst (λ (x : List ℕ). IsWhole mode.Data x (EndTag name ∷ [])) (sym is) (end_tag_whole name h) }

-- an end tag with another name

pub end_named : (tag name new : List ℕ) → is_name name ≡ true → begins_end_tag tag ≡ true → IsRenamed true tag new name → IsRenamedEnd name tag new
end_named tag name new h b r = record {
  named = renamed_bytes tag name new r.place b r.name_end r.bytes;
  whole = λ tokens w k. subst (λ (x : List ℕ). IsWhole mode.Data x (EndTag name ∷ [])) (sym r.bytes) (renamed_whole true tag r.place r.name_end name tokens h w k);
}

-- what is found exactly where it can be

pub so_given : {A : Type 0} (o : Option A) (x : A) (a v : Bool) → o ≡ Some x → is_some o ≡ (a && v) → v ≡ true
so_given o x a v e h = (and_parts a v (sym h ∙ ap is_some e)).1

pub not_given : {A : Type 0} (o : Option A) (a v : Bool) → o ≡ None → a ≡ true → is_some o ≡ (a && v) → v ≡ false
not_given o a v e k h = ap (λ x. x && v) (sym k) ∙ sym h ∙ ap is_some e

-- where no tag stands in markup

pub begins_not : (m : Mode) (k : TokenKind) (b : List ℕ) → begins_as k b ≡ false → (is_data m && begins_as k b) ≡ false
begins_not m k b h = ap (λ v. is_data m && v) h ∙ last_false (is_data m)
  where
    last_false : (v : Bool) → (v && false) ≡ false
    last_false true = refl
    last_false false = refl
