-- Characters, and the nodes that trees make.
use Rattle.std.proofs.Common.{◌≡◌, ℕ, Bool, true, false, not, ◌==◌, List, [], ◌∷◌, ◌++◌, map, Option, Some, None, refl, ap, sym, ◌∙◌, append_assoc, append-nil, true≢false, if◌then◌else◌}
use Rattle.std.specs.Prelude.{⊤}
use Rattle.std.specs.List.{list_all}
use Rattle.std.proofs.lemmas.Bool.{and_parts, not-true}
use Rattle.tl_spec.specs.Tree.Forest.{comment, none, tag, text}
use Rattle.tl_html_spec.specs.HtmlTokenizer.{Character, EndTag, HtmlToken}
use Rattle.tl_tree_spec.specs.HtmlForest.{HtmlForest, begins_with_text, html_tokens_of, is_normal, join_text, normal_form}
use Rattle.tl_tree_spec.specs.Builder.{Builder, Entry, Mode, Nodes, Reading, Stack, and_character, and_element, and_text, elements, is_flow, no_nodes, reconstructed, with_character}
use Rattle.tl_tree_spec.specs.HtmlTreeBuilder.{a_character, before, run, step}
use Rattle.tl_tree_spec.specs.Stays.{begins_line, may_be_read}
use Rattle.tl_tree_spec.proofs.Active.{Sound, reconstructed_none}

-- nodes with characters at their end, and with trees
abbrev pub with_characters : Nodes → List ℕ → Nodes
with_characters nodes [] = nodes
with_characters nodes (c ∷ cs) = with_characters (and_character nodes c) cs

abbrev pub grown : Nodes → HtmlForest → Nodes
grown nodes none = nodes
grown nodes (text bytes more) = grown (with_characters nodes bytes) more
grown nodes (comment bytes more) = grown nodes more
grown nodes (tag own children more) = grown (and_element nodes own (grown no_nodes children)) more

abbrev pub builder : Reading → Stack → List Entry → ℕ → Mode → Builder
builder reading s entries k m = record { stack = s; active = entries; next = k; skips = false; mode = m; reading = reading }

-- before a line feed that is ignored
abbrev pub loud : Reading → Stack → List Entry → ℕ → Mode → Builder
loud reading s entries k m = record { stack = s; active = entries; next = k; skips = true; mode = m; reading = reading }

abbrev pub with_nodes : Stack → Nodes → Stack
with_nodes s nodes = record s { current = record s.current { children = nodes } }

-- a character goes to the end of the current node
character-run : (x : Bool) (c : ℕ) (b : Builder) → may_be_read x c ≡ true → Sound b.active (elements b.stack) → a_character x b c ≡ Some (with_character b c)
character-run true c b h sound =
    ap (λ (y : Bool). Some (if y then b else with_character (reconstructed b) c)) (not-true (c == 0) h)
    ∙ ap (λ (d : Builder). Some (with_character d c)) (reconstructed_none b sound)
character-run false c b h sound = ap (λ (y : Bool). if y then Some (with_character b c) else None) h

module _ (reading : Reading) where
  -- and so do the characters of a text
  pub characters-run : (bytes : List ℕ) (s : Stack) (entries : List Entry) (k : ℕ) (m : Mode) (r : List HtmlToken) → Sound entries (elements s) →
      list_all (may_be_read (is_flow m)) bytes ≡ true →
      run (Some (builder reading s entries k m)) (map Character bytes ++ r) ≡ run (Some (builder reading (with_nodes s (with_characters s.current.children bytes)) entries k m)) r
  characters-run [] s entries k m r sound h = refl
  characters-run (c ∷ cs) s entries k m r sound h =
      let here = and_parts (may_be_read (is_flow m) c) (list_all (may_be_read (is_flow m)) cs) h in
      ap (λ (o : Option Builder). run o (map Character cs ++ r)) (character-run (is_flow m) c (builder reading s entries k m) here.0 sound)
      ∙ characters-run cs (with_nodes s (and_character s.current.children c)) entries k m r sound here.1

  -- what is no line feed is read as ever
  pub loud-run : (f : HtmlForest) (s : Stack) (entries : List Entry) (k : ℕ) (m : Mode) (n : List ℕ) (r : List HtmlToken) → begins_line f ≡ false →
      run (Some (loud reading s entries k m)) (html_tokens_of f ++ (EndTag n ∷ r)) ≡ run (Some (builder reading s entries k m)) (html_tokens_of f ++ (EndTag n ∷ r))
  loud-run none s entries k m n r h = refl
  loud-run (text [] more) s entries k m n r h = loud-run more s entries k m n r h
  loud-run (text (c ∷ cs) more) s entries k m n r h =
      ap (λ (x : Bool). run (if x then Some (builder reading s entries k m) else step (builder reading s entries k m) (Character c)) ((map Character cs ++ html_tokens_of more) ++ (EndTag n ∷ r))) h
  loud-run (comment bytes more) s entries k m n r h = refl
  loud-run (tag own children more) s entries k m n r h = refl

-- Trees of nodes

-- no comments
abbrev pub IsPlain : HtmlForest → Type 0
IsPlain none = ⊤
IsPlain (text bytes more) = IsPlain more
IsPlain (comment bytes more) = ⊥
IsPlain (tag own children more) = IsPlain children × IsPlain more

-- the last is no text
abbrev ends : Nodes → Bool
ends no_nodes = true
ends (and_text nodes bytes) = false
ends (and_element nodes own children) = true

begin_text : (nodes : Nodes) (c : ℕ) → ends nodes ≡ true → and_character nodes c ≡ and_text nodes (c ∷ [])
begin_text no_nodes c h = refl
begin_text (and_text nodes bytes) c h = absurd (true≢false (sym h))
begin_text (and_element nodes own children) c h = refl

more_characters : (nodes : Nodes) (bytes cs : List ℕ) → with_characters (and_text nodes bytes) cs ≡ and_text nodes (bytes ++ cs)
more_characters nodes bytes [] = ap (and_text nodes) (sym (append-nil bytes))
more_characters nodes bytes (c ∷ cs) =
    more_characters nodes (bytes ++ c ∷ []) cs ∙ ap (and_text nodes) (append_assoc bytes (c ∷ []) cs)

pub join_join : (b c : ℕ) (bs cs : List ℕ) (g : HtmlForest) → join_text (b ∷ bs) (join_text (c ∷ cs) g) ≡ join_text (b ∷ (bs ++ c ∷ cs)) g
join_join b c bs cs none = refl
join_join b c bs cs (text more g) = ap (λ x. text (b ∷ x) g) (sym (append_assoc bs (c ∷ cs) more))
join_join b c bs cs (comment bytes g) = refl
join_join b c bs cs (tag own children g) = refl

-- what grows of trees is their normal form: after nodes of which the last is no text, and after a text
record Grows (f : HtmlForest) : Type 0 where
  fresh : (nodes : Nodes) → ends nodes ≡ true → before (grown nodes f) none ≡ before nodes (normal_form f)
  after : (nodes : Nodes) (b : ℕ) (bs : List ℕ) → before (grown (and_text nodes (b ∷ bs)) f) none ≡ before nodes (join_text (b ∷ bs) (normal_form f))

grows : (f : HtmlForest) → IsPlain f → Grows f
grows none p = record { fresh = λ nodes h. refl; after = λ nodes b bs. refl }
grows (text [] more) p = record { fresh = (grows more p).fresh; after = (grows more p).after }
grows (text (c ∷ cs) more) p =
    let rest = grows more p in
    record {
      fresh = λ nodes h.
          ap (λ (x : Nodes). before (grown (with_characters x cs) more) none) (begin_text nodes c h)
          ∙ ap (λ (x : Nodes). before (grown x more) none) (more_characters nodes (c ∷ []) cs)
          ∙ rest.after nodes c cs;
      after = λ nodes b bs.
          ap (λ (x : Nodes). before (grown x more) none) (more_characters nodes (b ∷ bs) (c ∷ cs))
          ∙ rest.after nodes b (bs ++ c ∷ cs)
          ∙ ap (before nodes) (sym (join_join b c bs cs (normal_form more)));
    }
grows (comment bytes more) p = absurd p
grows (tag own children more) p =
    let inner = grows children p.0 in
    let rest = grows more p.1 in
    let joined : (nodes : Nodes) → before (grown (and_element nodes own (grown no_nodes children)) more) none
    ≡ before nodes (tag own (normal_form children) (normal_form more)) =
    λ nodes. rest.fresh (and_element nodes own (grown no_nodes children)) refl
    ∙ ap (λ (x : HtmlForest). before nodes (tag own x (normal_form more))) (inner.fresh no_nodes refl) in
    record { fresh = λ nodes h. joined nodes; after = λ nodes b bs. joined (and_text nodes (b ∷ bs)) }

pub trees_grown : (f : HtmlForest) → IsPlain f → before (grown no_nodes f) none ≡ normal_form f
trees_grown f p = (grows f p).fresh no_nodes refl

-- trees of normal form are their own

no_text_before : (b : ℕ) (bytes : List ℕ) (f : HtmlForest) → begins_with_text f ≡ false → join_text (b ∷ bytes) f ≡ text (b ∷ bytes) f
no_text_before b bytes none h = refl
no_text_before b bytes (text more f) h = absurd (true≢false h)
no_text_before b bytes (comment more f) h = refl
no_text_before b bytes (tag own children more) h = refl

pub normal : (f : HtmlForest) → is_normal f ≡ true → normal_form f ≡ f
normal none h = refl
normal (text [] more) h = absurd (true≢false (sym h))
normal (text (b ∷ bytes) more) h =
    let parts = and_parts (not (begins_with_text more)) (is_normal more) h in
    ap (join_text (b ∷ bytes)) (normal more parts.1) ∙ no_text_before b bytes more (not-true _ parts.0)
normal (comment bytes more) h = ap (comment bytes) (normal more h)
normal (tag own children more) h =
    let parts = and_parts (is_normal children) (is_normal more) h in
    ap (λ (x : HtmlForest). tag own x (normal_form more)) (normal children parts.0)
    ∙ ap (tag own children) (normal more parts.1)
