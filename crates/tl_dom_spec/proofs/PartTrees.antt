-- Tokens by both builders: where the partial one of `tl_tree_spec` has trees, the whole one has the same.
use Rattle.std.proofs.Common.{◌≡◌, ◌<◌, ℕ, suc, Bool, true, false, not, ◌||◌, ◌&&◌, ◌==◌, ◌*◌, ◌⊎◌, List, [], ◌∷◌, ◌++◌, length, map, Option, Some, None, codes, refl, ap, ap₂, sym, ◌∙◌, subst, inl, inr, true≢false, arith, if◌then◌else◌}
use Rattle.std.specs.Prelude.{nat_lt, option_map}
use Rattle.std.specs.Char.{is_ascii_whitespace}
use Rattle.std.specs.List.{list_all, list_any}
use Rattle.std.specs.Str.{bytes_eq}
use Rattle.std.proofs.lemmas.Bool.{and_parts, cases_Bool, cond-false, cond-true, eqb-true, false_from_ne_true, not-true}
use Rattle.std.proofs.lemmas.Slice.Eq.{bytes_eq-Decides}
use Rattle.tl_html_spec.specs.Balanced.{is_one_of, is_raw, words}
use Rattle.tl_html_spec.specs.HtmlTokenizer.{Character, CommentToken, DoctypeToken, EndTag, HtmlToken, StartTag, data_state}
use Rattle.tl_spec.specs.Tree.Forest.{none, tag, text}
use Rattle.tl_tree_spec.specs.Builder as P
use Rattle.tl_tree_spec.specs.HtmlTreeBuilder as R
use Rattle.tl_tree_spec.specs.HtmlForest.{HtmlForest, HtmlTag}
use Rattle.tl_tree_spec.specs.Groups as G
use Rattle.tl_dom_spec.specs.Tags as T
use Rattle.tl_dom_spec.specs.Path as W
use Rattle.tl_dom_spec.specs.Builder as B
use Rattle.tl_dom_spec.specs.Body as Body
use Rattle.tl_dom_spec.specs.Marks.{Marked, marked, unmarked}
use Rattle.tl_dom_spec.specs.Tables as S
use Rattle.tl_dom_spec.specs.Dispatcher as M
use Rattle.tl_dom_spec.specs.Driver.{token_of}
use Rattle.tl_dom_spec.specs.HtmlTree as H
use Rattle.tl_dom_spec.specs.HtmlForest as F
use Rattle.tl_dom_spec.specs.Groups as D
use Rattle.tl_dom_spec.specs.Partial.{begins_in_flow, is_flow_context, reading_in, whole, without_numbers}
use Rattle.tl_dom_spec.proofs.PartSources.{bare_path, html_content-bare, open-bare, popped_to-bare, put-bare, top-bare, trees-bare}
use Rattle.tl_dom_spec.proofs.PartNames.{facts, has_twin}
use Rattle.tl_dom_spec.proofs.PartPaths.{IsStack, elements_are, eq_suc, frame_of, frames_of, name_of, nodes_of, path_of, pops_on, stays_on, tag_of}
use Rattle.tl_dom_spec.proofs.PartBuilders.{Alike, Like, Sound, as_html, first_mode, in_caption, mode_is}
use Rattle.tl_dom_spec.proofs.PartOps as O
use Rattle.tl_dom_spec.proofs.PartSound.{character_sound}
use Rattle.tl_dom_spec.proofs.PartBody.{character_in_body}
use Rattle.tl_dom_spec.proofs.PartRoots.{MayHaveRoot, Rooted, root_around}
use Rattle.tl_dom_spec.proofs.PartRoots as Roots
use Rattle.tl_dom_spec.proofs.PartTables.{context_mode, current_at}
use Rattle.tl_dom_spec.proofs.PartTableRules.{Reaches, a_start, again, an_end, content_of, dispatched, done, enough, mode_now, more, no_answer, reaches_repeated}

-- White space that waits

-- between parts of a table the whole builder collects white space, and puts it in later
pub record Waits (b : P.Builder) (c : B.Builder) : Type 0 where
  pub first : ℕ
  pub rest : List ℕ
  pub pending : c.pending ≡ first ∷ rest
  pub blank : list_all is_ascii_whitespace (first ∷ rest) ≡ true
  pub mode : c.mode ≡ B.in_table_text
  pub outer : P.is_flow b.mode ≡ false
  -- what there is once it is put in
  pub alike : Alike b (B.switch_to c.original (B.insert_bytes c.pending c))

abbrev pub Goes : P.Builder → B.Builder → Type 0
Goes b c = Alike b c ⊎ Waits b c

-- what a token leaves is counted, and what is ignored forgotten

same_goes : (b : P.Builder) (v : Bool) (x y : B.Builder) → Goes b x → Goes b y → Goes b (if v then x else y)
same_goes b true x y h k = h
same_goes b false x y h k = k

counted : {b : P.Builder} {c : B.Builder} (tokens excess : ℕ) → Goes b c → Goes b (record c { tokens = tokens; excess = excess })
counted {c = c} tokens excess (inl h) = inl (record { sound = h.sound; like = O.counting h.like c.added tokens excess })
counted {b = b} {c = c} tokens excess (inr w) = inr (record {
  first = w.first;
  rest = w.rest;
  pending = w.pending;
  blank = w.blank;
  mode = w.mode;
  outer = w.outer;
  alike = record { sound = w.alike.sound; like = O.counting w.alike.like c.added tokens excess };
})

count_token : {b : P.Builder} {c : B.Builder} → Goes b c → Goes b (M.count_token c)
count_token {b = b} {c = c} h =
    let taken : B.Builder = record c { tokens = suc c.tokens } in
    same_goes b (nat_lt taken.excess (M.excess_of taken)) (record taken { excess = M.excess_of taken }) taken
    (counted (suc c.tokens) (M.excess_of taken) h) (counted (suc c.tokens) c.excess h)

-- the number of a text that waits is no matter
numbered_like : (b : P.Builder) (c : B.Builder) (n : ℕ) → Like b (B.switch_to c.original (B.insert_bytes c.pending c)) →
    Like b (B.switch_to c.original (B.insert_bytes c.pending (record c { marks = n })))
numbered_like b c n l =
    O.with_path (O.numbering l n) b.stack (B.insert_bytes c.pending (record c { marks = n })).path
    (put-bare (B.appropriate_place c) (W.and_text W.no_nodes (marked n c.pending)) c.path
    ∙ sym (put-bare (B.appropriate_place c) (W.and_text W.no_nodes (marked c.marks c.pending)) c.path) ∙ l.path)

started : {b : P.Builder} {c : B.Builder} (n : ℕ) → Goes b c → Goes b (record c { marks = n })
started n (inl h) = inl (record { sound = h.sound; like = O.numbering h.like n })
started {b = b} {c = c} n (inr w) = inr (record {
  first = w.first;
  rest = w.rest;
  pending = w.pending;
  blank = w.blank;
  mode = w.mode;
  outer = w.outer;
  alike = record { sound = w.alike.sound; like = numbered_like b c n w.alike.like };
})

calm_sound : (b : P.Builder) → Sound b → Sound (R.calm b)
calm_sound b h = record { stack = h.stack; stand = h.stand; entries = h.entries; numbers = h.numbers; mode = h.mode }

calm : {b : P.Builder} {c : B.Builder} → Goes b c → Goes (R.calm b) (M.calm c)
calm {b = b} (inl h) = inl (record { sound = calm_sound b h.sound; like = O.reading (O.skipping h.like false) data_state })
calm {b = b} (inr w) = inr (record {
  first = w.first;
  rest = w.rest;
  pending = w.pending;
  blank = w.blank;
  mode = w.mode;
  outer = w.outer;
  alike = record { sound = calm_sound b w.alike.sound; like = O.reading (O.skipping w.alike.like false) data_state };
})

skips_is : {b : P.Builder} {c : B.Builder} → Goes b c → c.skips ≡ b.skips
skips_is (inl h) = h.like.skips
skips_is (inr w) = w.alike.like.skips

-- White space is put in

abbrev put_in : Bool → W.Path → Marked (List ℕ) → W.Path
put_in fostering path bytes = W.put (W.place_in fostering path) (W.and_text W.no_nodes bytes) path

append_again : (xs ys zs : List ℕ) → (xs ++ ys) ++ zs ≡ xs ++ (ys ++ zs)
append_again [] ys zs = refl
append_again (x ∷ xs) ys zs = ap (λ r. x ∷ r) (append_again xs ys zs)

text_again : (nodes : W.Nodes) (n : ℕ) (xs ys : List ℕ) → W.with_text (W.with_text nodes (marked n xs)) (marked n ys) ≡ W.with_text nodes (marked n (xs ++ ys))
text_again W.no_nodes n xs ys = refl
text_again (W.and_text nodes own) n xs ys = ap (λ zs. W.and_text nodes (record own { said = zs })) (append_again own.said xs ys)
text_again (W.and_comment nodes bytes) n xs ys = refl
text_again (W.and_doctype nodes own) n xs ys = refl
text_again (W.and_element nodes own children) n xs ys = refl

put_again : (path : W.Path) (n : ℕ) (xs ys : List ℕ) → put_in false (put_in false path (marked n xs)) (marked n ys) ≡ put_in false path (marked n (xs ++ ys))
put_again [] n xs ys = refl
put_again (f ∷ path) n xs ys = ap (λ nodes. record f { children = nodes; waiting = W.no_nodes } ∷ path) (text_again (W.joined f.children f.waiting) n xs ys)

put_top : (path : W.Path) (xs : Marked (List ℕ)) → (W.top (put_in false path xs)).tag ≡ (W.top path).tag
put_top [] xs = refl
put_top (f ∷ path) xs = refl

module _ {b : P.Builder} {c : B.Builder} (w : Waits b c) where
  -- the current element, which is one of HTML
  top_is : (W.top (bare_path c.path)).tag ≡ tag_of b.stack.current.element.own
  top_is =
      sym (put_top (bare_path c.path) (unmarked c.pending))
      ∙ ap (λ p. (W.top p).tag) (sym (put-bare W.here (W.and_text W.no_nodes (marked c.marks c.pending)) c.path))
      ∙ ap (λ v. (W.top (bare_path (put_in v c.path (marked c.marks c.pending)))).tag) (sym w.alike.like.fostering)
      ∙ ap (λ p. (W.top p).tag) w.alike.like.path

  content : (token : B.Token) → M.is_html_content (B.adjusted_current_node c) token ≡ true
  content token =
      html_content-bare c.context c.path token
      ∙ ap (λ x. M.is_html_content (B.adjusted_tag x (bare_path c.path)) token) w.alike.like.context.is
      ∙ ap (λ t. M.is_html_content (if B.is_only (W.elements (bare_path c.path)) then as_html w.alike.like.context.tag else t) token) top_is
      ∙ content_of token w.alike.like.context.tag b.stack.current (B.is_only (W.elements (bare_path c.path)))

  in_text : (token : B.Token) → M.dispatch token c ≡ S.in_table_text_step c token
  in_text token = cond-true _ _ _ (content token) ∙ ap (λ m. M.mode_step m c token) w.mode

  put_is : S.pending_inserted c ≡ B.insert_bytes c.pending c
  put_is =
      cond-false _ _ _ (ap S.no_bytes w.pending)
      ∙ cond-true _ _ _ (ap (list_all is_ascii_whitespace) w.pending ∙ w.blank)

  abbrev flushed : B.Builder
  flushed = B.switch_to c.original (B.insert_bytes c.pending c)

  -- a token that is no character is reprocessed then
  flushes : (token : B.Token) → S.in_table_text_step c token ≡ B.Again (B.switch_to c.original (S.pending_inserted c)) → M.dispatch token c ≡ B.Again flushed
  flushes token e = in_text token ∙ e ∙ ap (λ d. B.Again (B.switch_to c.original d)) put_is

  after_flush : (token : B.Token) → S.in_table_text_step c token ≡ B.Again (B.switch_to c.original (S.pending_inserted c)) → (n : ℕ) (after : P.Builder) →
      Reaches (B.Again flushed) n (M.dispatch token) after → Reaches (B.Again c) (suc n) (M.dispatch token) after
  after_flush token e n after r = subst (λ o. Reaches o n (M.dispatch token) after) (sym (flushes token e)) r

  -- more white space waits
  all_blank : (xs : List ℕ) (x : ℕ) → list_all is_ascii_whitespace xs ≡ true → is_ascii_whitespace x ≡ true → list_all is_ascii_whitespace (xs ++ x ∷ []) ≡ true
  all_blank [] x h k = ap (λ v. v && true) k
  all_blank (y ∷ ys) x h k =
      let two = and_parts (is_ascii_whitespace y) (list_all is_ascii_whitespace ys) h in
      ap (λ v. v && list_all is_ascii_whitespace (ys ++ x ∷ [])) two.0 ∙ all_blank ys x two.1 k

  abbrev more_pending : ℕ → B.Builder
  more_pending x = record c { pending = c.pending ++ x ∷ [] }

  more_path : (x : ℕ) → put_in c.is_fostering c.path (marked c.marks (c.pending ++ x ∷ [])) ≡ (B.insert_character x flushed).path
  more_path x =
      let e = w.alike.like.fostering in
      ap (λ v. put_in v c.path (marked c.marks (c.pending ++ x ∷ []))) e
      ∙ sym (put_again c.path c.marks c.pending (x ∷ []))
      ∙ ap (λ v. put_in v (put_in v c.path (marked c.marks c.pending)) (marked c.marks (x ∷ []))) (sym e)

  more_waits : (x : ℕ) → is_ascii_whitespace x ≡ true → Waits (P.with_character b x) (more_pending x)
  more_waits x k =
      let l = O.character w.alike.like x in
      record {
        first = w.first;
        rest = w.rest ++ x ∷ [];
        pending = ap (λ xs. xs ++ x ∷ []) w.pending;
        blank = all_blank (w.first ∷ w.rest) x w.blank k;
        mode = w.mode;
        outer = w.outer;
        alike = record {
          sound = character_sound b x w.alike.sound;
          like = record {
            path = ap bare_path (more_path x) ∙ l.path;
            active = l.active;
            next = l.next;
            mode = l.mode;
            skips = l.skips;
            fostering = l.fostering;
            quirks = l.quirks;
            templates = l.templates;
            context = l.context;
            search = l.search;
          };
        };
      }

-- White space begins to wait

among_more : (n : List ℕ) (ws vs : List (List ℕ)) → list_all (λ w. list_any (bytes_eq w) vs) ws ≡ true → list_any (bytes_eq n) ws ≡ true → list_any (bytes_eq n) vs ≡ true
among_more n [] vs h k = absurd (true≢false (sym k))
among_more n (w ∷ ws) vs h k =
    let two = and_parts (list_any (bytes_eq w) vs) _ h in
    elim (cases_Bool (bytes_eq n w)) [
      | inl y ↦ ap (λ x. list_any (bytes_eq x) vs) ((bytes_eq-Decides n w).0 y) ∙ two.0
      | inr m ↦ among_more n ws vs two.1 (sym (ap (λ v. v || list_any (bytes_eq n) ws) m) ∙ k)
    ]

abbrev between_names : List (List ℕ)
between_names = words (codes "table tbody tfoot thead tr")

-- the modes between parts of a table
abbrev is_between : P.Mode → Bool
is_between P.in_table = true
is_between P.in_table_body = true
is_between P.in_row = true
is_between _ = false

between_top : (b : P.Builder) → Sound b → (m : P.Mode) → b.mode ≡ m → is_between m ≡ true → is_one_of (codes "table tbody tfoot thead tr") (name_of b.stack.current) ≡ true
between_top b h P.in_table m k =
    let n = name_of b.stack.current in
    among_more n (words (codes "table")) between_names refl (sym (facts n).table ∙ current_at b h P.in_table m)
between_top b h P.in_table_body m k =
    let n = name_of b.stack.current in
    among_more n (words (codes "tbody tfoot thead")) between_names refl (sym (facts n).table_body ∙ current_at b h P.in_table_body m)
between_top b h P.in_row m k =
    let n = name_of b.stack.current in
    among_more n (words (codes "tr")) between_names refl (sym (facts n).row ∙ current_at b h P.in_row m)
between_top b h _ m k = absurd (true≢false (sym k))

no_nul : (x : ℕ) → is_ascii_whitespace x ≡ true → (x == 0) ≡ false
no_nul x k = false_from_ne_true (x == 0) (λ y. true≢false (sym k ∙ ap is_ascii_whitespace (eqb-true x 0 y)))

module _ {b : P.Builder} {c : B.Builder} (h : Alike b c) (x : ℕ) (m : is_between b.mode ≡ true) (k : is_ascii_whitespace x ≡ true) where
  abbrev emptied : B.Builder
  emptied = record c { pending = []; original = c.mode; mode = B.in_table_text }

  abbrev waiting : B.Builder
  waiting = record c { pending = x ∷ []; original = c.mode; mode = B.in_table_text }

  between_step : (v : Bool) (n : P.Mode) → is_between n ≡ true → M.mode_step (mode_is v n) c (B.a_character x) ≡ S.table_character c x
  between_step v P.in_table y = refl
  between_step v P.in_table_body y = refl
  between_step v P.in_row y = refl
  between_step v _ y = absurd (true≢false (sym y))

  text_in_table : S.is_text_in_table (B.current_tag c) ≡ true
  text_in_table =
      ap (λ (f : W.Frame). S.is_text_in_table f.tag) (top-bare c.path)
      ∙ ap (λ p. S.is_text_in_table (W.top p).tag) h.like.path
      ∙ ap (λ v. v || T.is_template (tag_of b.stack.current.element.own)) (between_top b h.sound b.mode refl m)

  empties : M.dispatch (B.a_character x) c ≡ B.Again emptied
  empties = dispatched h.like (B.a_character x) ∙ between_step (in_caption c.context) b.mode m ∙ cond-true _ _ _ text_in_table

  html_current : (token : B.Token) → M.is_html_content (B.adjusted_current_node emptied) token ≡ true
  html_current token =
      html_content-bare c.context c.path token
      ∙ ap₂ (λ y p. M.is_html_content (B.adjusted_tag y p) token) h.like.context.is h.like.path
      ∙ content_of token h.like.context.tag b.stack.current (B.is_only (W.elements (path_of (frames_of b.stack))))

  takes : M.dispatch (B.a_character x) emptied ≡ B.Done waiting
  takes = cond-true _ _ _ (html_current (B.a_character x)) ∙ ap B.Done (cond-false _ _ _ (no_nul x k))

  pub waits : Waits (P.with_character b x) waiting
  waits =
      let l = O.character h.like x in
      record {
        first = x;
        rest = [];
        pending = refl;
        blank = ap (λ v. v && true) k;
        mode = refl;
        outer = outside b.mode m;
        alike = record {
          sound = character_sound b x h.sound;
          like = record {
            path = l.path;
            active = l.active;
            next = l.next;
            mode = l.mode;
            skips = l.skips;
            fostering = l.fostering;
            quirks = l.quirks;
            templates = l.templates;
            context = l.context;
            search = l.search;
          };
        };
      }
    where
      outside : (n : P.Mode) → is_between n ≡ true → P.is_flow n ≡ false
      outside P.in_table y = refl
      outside P.in_table_body y = refl
      outside P.in_row y = refl
      outside _ y = absurd (true≢false (sym y))

  pub begins : (n : ℕ) → B.repeated (more 8 n) (M.dispatch (B.a_character x)) (B.Again c) ≡ waiting
  begins n =
      ap (B.repeated (more 7 n) (M.dispatch (B.a_character x))) empties
      ∙ ap (B.repeated (more 6 n) (M.dispatch (B.a_character x))) takes

-- One token

some_same : {b d : P.Builder} → Some b ≡ Some d → b ≡ d
some_same e = cc

became : {b after : P.Builder} {c : B.Builder} → Some b ≡ Some after → Waits b c → Waits after c
became {c = c} e w = subst (λ y. Waits y c) (some_same e) w

module _ (x n : ℕ) (after : P.Builder) where
  abbrev taken : B.Builder → B.Builder
  taken c = B.repeated (more 8 n) (M.dispatch (B.a_character x)) (B.Again c)

  abbrev by_character : B.Builder → B.Outcome
  by_character c = M.dispatch (B.a_character x) c

  -- where the rules are those of "in body"
  flow_character : (b : P.Builder) (c : B.Builder) → Alike b c → P.is_flow b.mode ≡ true →
      (M.mode_step (mode_now c b.mode) c (B.a_character x) ≡ B.Done (Body.body_character x c)) →
      Some (if x == 0 then b else P.with_character (P.reconstructed b) x) ≡ Some after → Goes after (taken c)
  flow_character b c h k same eq =
      inl (reaches_repeated 8 n by_character (B.Again c) after (again h (B.a_character x) 7 after
      (subst (λ o. Reaches o 7 by_character after) (sym same) (done eq (character_in_body h k x)))))

  -- in a column group
  column_character : (b : P.Builder) (c : B.Builder) → Alike b c → b.mode ≡ P.in_column_group → (if is_ascii_whitespace x then Some (P.with_character b x) else None) ≡ Some after → Goes after (taken c)
  column_character b c h m eq = elim (cases_Bool (is_ascii_whitespace x)) [
    | inl y ↦ inl (reaches_repeated 8 n by_character (B.Again c) after (again h (B.a_character x) 7 after
        (subst (λ o. Reaches o 7 by_character after) (sym (ap (λ k. M.mode_step (mode_now c k) c (B.a_character x)) m ∙ cond-true _ _ _ y))
        (done (sym (cond-true _ _ _ y) ∙ eq) (record { sound = character_sound b x h.sound; like = O.character h.like x })))))
    | inr z ↦ absurd (no_answer after (sym (cond-false _ _ _ z) ∙ eq))
  ]

  -- between parts of a table
  between_character : (b : P.Builder) (c : B.Builder) → Alike b c → is_between b.mode ≡ true → (if is_ascii_whitespace x then Some (P.with_character b x) else None) ≡ Some after → Goes after (taken c)
  between_character b c h m eq = elim (cases_Bool (is_ascii_whitespace x)) [
    | inl y ↦ inr (subst (Waits after) (sym (begins h x m y n)) (became (sym (cond-true _ _ _ y) ∙ eq) (waits h x m y)))
    | inr z ↦ absurd (no_answer after (sym (cond-false _ _ _ z) ∙ eq))
  ]

  alike_character : (b : P.Builder) (c : B.Builder) → Alike b c → (m : P.Mode) → b.mode ≡ m → R.a_character (P.is_flow m) b x ≡ Some after → Goes after (taken c)
  alike_character b c h P.in_body m eq =
      flow_character b c h (ap P.is_flow m) (ap (λ k. M.mode_step (mode_now c k) c (B.a_character x)) m ∙ first_character (in_caption c.context)) eq
    where
      first_character : (v : Bool) → M.mode_step (first_mode v) c (B.a_character x) ≡ B.Done (Body.body_character x c)
      first_character true = refl
      first_character false = refl
  alike_character b c h P.in_caption m eq = flow_character b c h (ap P.is_flow m) (ap (λ k. M.mode_step (mode_now c k) c (B.a_character x)) m) eq
  alike_character b c h P.in_cell m eq = flow_character b c h (ap P.is_flow m) (ap (λ k. M.mode_step (mode_now c k) c (B.a_character x)) m) eq
  alike_character b c h P.in_column_group m eq = column_character b c h m eq
  alike_character b c h P.in_table m eq = between_character b c h (ap is_between m) eq
  alike_character b c h P.in_table_body m eq = between_character b c h (ap is_between m) eq
  alike_character b c h P.in_row m eq = between_character b c h (ap is_between m) eq

  -- where some waits already
  waiting_character : (b : P.Builder) (c : B.Builder) → Waits b c → R.a_character (P.is_flow b.mode) b x ≡ Some after → Goes after (taken c)
  waiting_character b c w eq =
      let other : (if is_ascii_whitespace x then Some (P.with_character b x) else None) ≡ Some after = sym (ap (λ v. R.a_character v b x) w.outer) ∙ eq in
      elim (cases_Bool (is_ascii_whitespace x)) [
        | inl y ↦ inr (subst (Waits after)
            (sym (ap (B.repeated (more 7 n) by_character) (in_text w (B.a_character x) ∙ ap B.Done (cond-false _ _ _ (no_nul x y)))))
            (became (sym (cond-true _ _ _ y) ∙ other) (more_waits w x y)))
        | inr z ↦ absurd (no_answer after (sym (cond-false _ _ _ z) ∙ other))
      ]

token_taken : (b : P.Builder) (c : B.Builder) → Goes b c → (token : HtmlToken) (m n : ℕ) (after : P.Builder) → R.of_token b token ≡ Some after →
    Goes after (B.repeated (more 8 n) (M.dispatch (M.numbered m (token_of token))) (B.Again c))
token_taken b c (inl h) (Character x) m n after eq = alike_character x n after b c h b.mode refl eq
token_taken b c (inr w) (Character x) m n after eq = waiting_character x n after b c w eq
token_taken b c (inl h) (StartTag name attributes closes) m n after eq =
    let own : HtmlTag = record { name = name; attributes = attributes } in
    let token : B.Token = M.numbered m (token_of (StartTag name attributes closes)) in
    inl (reaches_repeated 8 n (M.dispatch token) (B.Again c) after (again h token 7 after (a_start own (Some m) closes after b c h 2 eq)))
token_taken b c (inr w) (StartTag name attributes closes) m n after eq =
    let own : HtmlTag = record { name = name; attributes = attributes } in
    let token : B.Token = M.numbered m (token_of (StartTag name attributes closes)) in
    inl (reaches_repeated 8 n (M.dispatch token) (B.Again c) after
    (after_flush w token refl 7 after (again w.alike token 6 after (a_start own (Some m) closes after b (flushed w) w.alike 1 eq))))
token_taken b c (inl h) (EndTag name) m n after eq =
    let token : B.Token = token_of (EndTag name) in
    inl (reaches_repeated 8 n (M.dispatch token) (B.Again c) after (again h token 7 after (an_end name after b c h 4 eq)))
token_taken b c (inr w) (EndTag name) m n after eq =
    let token : B.Token = token_of (EndTag name) in
    inl (reaches_repeated 8 n (M.dispatch token) (B.Again c) after
    (after_flush w token refl 7 after (again w.alike token 6 after (an_end name after b (flushed w) w.alike 3 eq))))
token_taken b c h (CommentToken bytes) m n after eq = absurd (no_answer after eq)
token_taken b c h DoctypeToken m n after eq = absurd (no_answer after eq)

-- Tokens

line_same : (token : HtmlToken) → M.is_line_feed (token_of token) ≡ R.is_line_feed token
line_same (Character x) = refl
line_same (StartTag name attributes closes) = refl
line_same (EndTag name) = refl
line_same (CommentToken bytes) = refl
line_same DoctypeToken = refl

enough_steps : (c : B.Builder) (step : B.Builder → B.Outcome) (o : B.Outcome) → B.repeated (M.bound c) step o ≡ B.repeated (more 8 (2 * length c.path)) step o
enough_steps c step o = ap (λ n. B.repeated n step o) (sym (enough (2 * length c.path)))

token_goes : (b : P.Builder) (c : B.Builder) → Goes b c → (token : HtmlToken) (after : P.Builder) → R.step b token ≡ Some after → Goes after (M.token_done c (token_of token))
token_goes b c h token after eq =
    let same : (c.skips && M.is_line_feed (token_of token)) ≡ (b.skips && R.is_line_feed token) = ap₂ (λ v w. v && w) (skips_is h) (line_same token) in
    started (M.marks_behind c.marks (token_of token)) (count_token (elim (cases_Bool (b.skips && R.is_line_feed token)) [
      | inl y ↦ subst (Goes after) (sym (cond-true _ _ _ (same ∙ y)))
          (subst (λ d. Goes d (M.calm c)) (some_same (sym (cond-true _ _ _ y) ∙ eq)) (calm h))
      | inr z ↦ subst (Goes after) (sym (cond-false _ _ _ (same ∙ z) ∙ enough_steps c (M.dispatch (M.numbered c.marks (token_of token))) (B.Again (M.calm c))))
          (token_taken (R.calm b) (M.calm c) (calm h) token c.marks (2 * length c.path) after (sym (cond-false _ _ _ z) ∙ eq))
    ]))

tokens_go : (tokens : List HtmlToken) (b : P.Builder) (c : B.Builder) → Goes b c → (after : P.Builder) → R.run (Some b) tokens ≡ Some after → Goes after (M.tokens_done c (map token_of tokens))
tokens_go [] b c h after eq = subst (λ d. Goes d c) (some_same eq) h
tokens_go (token ∷ tokens) b c h after eq =
    by_step b c token tokens h after (λ d k r. tokens_go tokens d (M.token_done c (token_of token)) k after r) (R.step b token) refl eq
  where
    by_step : (b : P.Builder) (c : B.Builder) (token : HtmlToken) (tokens : List HtmlToken) → Goes b c → (after : P.Builder) →
        ((d : P.Builder) → Goes d (M.token_done c (token_of token)) → R.run (Some d) tokens ≡ Some after → Goes after (M.tokens_done (M.token_done c (token_of token)) (map token_of tokens))) →
        (o : Option P.Builder) → R.step b token ≡ o → R.run o tokens ≡ Some after → Goes after (M.tokens_done (M.token_done c (token_of token)) (map token_of tokens))
    by_step b c token tokens h after onward None e r = absurd (no_answer after r)
    by_step b c token tokens h after onward (Some d) e r = onward d (token_goes b c h token d e) r

-- The beginning

-- a flow context, as a context of HTML
abbrev flow : H.Context → H.Context
flow context = record context { tag = as_html context.tag }

flow_html : (context : H.Context) → T.is_html context.tag ≡ true → context ≡ flow context
flow_html context h = ap (λ (s : T.Namespace). record context { tag = record context.tag { space = s } }) (of_html context.tag.space h)
  where
    of_html : (s : T.Namespace) → T.by_space s true false false ≡ true → s ≡ T.html_space
    of_html T.html_space h = refl
    of_html T.math_space h = absurd (true≢false (sym h))
    of_html T.svg_space h = absurd (true≢false (sym h))

no_template_around : (t : T.Tag) → begins_in_flow (D.group t.name) ≡ true → T.is_template (as_html t) ≡ false
no_template_around t h =
    ap (λ v. v || false)
    (false_from_ne_true (bytes_eq t.name (codes "template")) (λ y. true≢false (sym h ∙ ap (λ m. begins_in_flow (D.group m)) ((bytes_eq-Decides t.name (codes "template")).0 y))))

pub starts_alike : (context : H.Context) → begins_in_flow (D.group context.tag.name) ≡ true → (v : Bool) → Alike (R.fragment (reading_in context v)) (H.fragment_start (record H.standard { counts_search = v }) (flow context))
starts_alike context h v = record {
  sound = record { stack = refl; stand = tt; entries = tt; numbers = ((let z : 0 < 1 = omega arith in z), tt, tt); mode = refl };
  like = record {
    path = refl;
    active = refl;
    next = refl;
    mode = context_mode (H.fragment_start (record H.standard { counts_search = v }) (flow context)) (D.group context.tag.name) h;
    skips = refl;
    fostering = refl;
    quirks = refl;
    templates = ap (λ x. if x then B.in_template ∷ [] else []) (no_template_around context.tag h);
    context = record { tag = context.tag; is = refl; begins = h };
    search = refl;
  };
}

-- The end

template_off : (n : List ℕ) → has_twin (G.group n) ≡ true → is_one_of (codes "template") n ≡ false
template_off n h = false_from_ne_true (is_one_of (codes "template") n) (λ y. true≢false (sym h ∙ named n y))
  where
    named : (n : List ℕ) → is_one_of (codes "template") n ≡ true → has_twin (G.group n) ≡ false
    named n y = elim (cases_Bool (bytes_eq n (codes "template"))) [
      | inl e ↦ ap (λ m. has_twin (G.group m)) ((bytes_eq-Decides n (codes "template")).0 e)
      | inr e ↦ absurd (true≢false (sym y ∙ ap (λ v. v || false) e))
    ]

no_template : (f : P.Frame) (os : List P.Frame) → IsStack f os → W.within (W.has_tag T.is_template) W.no_frame (map frame_of (f ∷ os)) ≡ false
no_template f [] k = ap (λ n. is_one_of (codes "template") n || false) k
no_template f (o ∷ os) k =
    ap (λ v. v || W.within (W.has_tag T.is_template) W.no_frame (map frame_of (o ∷ os))) (template_off (name_of f) k.0)
    ∙ no_template o os k.1

ended : {b : P.Builder} {c : B.Builder} → Alike b c → Body.file_ended c ≡ B.Done c
ended {b = b} {c = c} h =
    cond-false _ _ _ (open-bare (W.has_tag T.is_template) W.no_frame (W.has_tag T.is_template) W.no_frame (λ _. refl) (λ _. refl) c.path
    ∙ ap (W.has_open T.is_template) h.like.path
    ∙ ap (W.within (W.has_tag T.is_template) W.no_frame) (elements_are (frames_of b.stack))
    ∙ no_template b.stack.current b.stack.others h.sound.stack)

end_step : (v : Bool) (m : P.Mode) (c : B.Builder) → M.mode_step (mode_is v m) c B.end_of_file ≡ Body.file_ended c
end_step true P.in_body c = refl
end_step false P.in_body c = refl
end_step v P.in_table c = refl
end_step v P.in_caption c = refl
end_step v P.in_column_group c = refl
end_step v P.in_table_body c = refl
end_step v P.in_row c = refl
end_step v P.in_cell c = refl

end_reaches : (b : P.Builder) (c : B.Builder) → Alike b c → (n : ℕ) → Reaches (B.Again c) (suc n) (M.dispatch B.end_of_file) b
end_reaches b c h n = again h B.end_of_file n b (subst (λ o. Reaches o n (M.dispatch B.end_of_file) b) (sym (end_step (in_caption c.context) b.mode c ∙ ended h)) h)

file_reaches : (b : P.Builder) (c : B.Builder) → Goes b c → (n : ℕ) → Alike b (B.repeated (more 8 n) (M.dispatch B.end_of_file) (B.Again c))
file_reaches b c (inl h) n = reaches_repeated 8 n (M.dispatch B.end_of_file) (B.Again c) b (end_reaches b c h 7)
file_reaches b c (inr w) n = reaches_repeated 8 n (M.dispatch B.end_of_file) (B.Again c) b (after_flush w B.end_of_file refl 7 b (end_reaches b (flushed w) w.alike 6))

counted_alike : (b : P.Builder) (c : B.Builder) → Alike b c → Alike b (M.count_token c)
counted_alike b c h = by_count (nat_lt c.excess (M.excess_of (record c { tokens = suc c.tokens })))
  where
    by_count : (v : Bool) → Alike b (if v then record c { tokens = suc c.tokens; excess = M.excess_of (record c { tokens = suc c.tokens }) } else record c { tokens = suc c.tokens })
    by_count true = record { sound = h.sound; like = O.counting h.like c.added (suc c.tokens) (M.excess_of (record c { tokens = suc c.tokens })) }
    by_count false = record { sound = h.sound; like = O.counting h.like c.added (suc c.tokens) c.excess }

started_alike : (b : P.Builder) (c : B.Builder) (n : ℕ) → Alike b c → Alike b (record c { marks = n })
started_alike b c n h = record { sound = h.sound; like = O.numbering h.like n }

pub file_goes : (b : P.Builder) (c : B.Builder) → Goes b c → Alike (R.calm b) (M.token_done c B.end_of_file)
file_goes b c h =
    let idle : (v : Bool) → (v && false) ≡ false = λ v. by_value v in
    started_alike (R.calm b) _ c.marks (counted_alike (R.calm b) _ (subst (Alike (R.calm b)) (sym (cond-false _ _ _ (idle c.skips) ∙ enough_steps c (M.dispatch B.end_of_file) (B.Again (M.calm c))))
    (file_reaches (R.calm b) (M.calm c) (calm h) (2 * length c.path))))
  where
    by_value : (v : Bool) → (v && false) ≡ false
    by_value true = refl
    by_value false = refl

-- Trees

before_is : (nodes : P.Nodes) (later : HtmlForest) → F.before (nodes_of nodes) (whole later) ≡ whole (R.before nodes later)
before_is P.no_nodes later = refl
before_is (P.and_text nodes bytes) later = before_is nodes (text bytes later)
before_is (P.and_element nodes own children) later =
    ap (λ inner. F.before (nodes_of nodes) (F.element (tag_of own) inner (whole later))) (before_is children none)
    ∙ before_is nodes (tag own (R.before children none) later)

abbrev off_root : W.Frame → Bool
off_root f = not (W.has_number 1 f)

root_from : (g f : P.Frame) (os : List P.Frame) → Rooted f os →
    H.trees_in (W.top (W.settled_while off_root (frame_of g ∷ path_of os) (path_of (f ∷ os)))) ≡ whole (R.before (R.whole f os) none)
root_from g f [] h =
    ap (λ p. H.trees_in (W.top p)) (stays_on off_root g f [] [] (ap not (eq_suc f.element.number 0 ∙ h)))
    ∙ before_is f.children none
root_from g f (o ∷ os) h =
    ap (λ p. H.trees_in (W.top p)) (pops_on off_root g f o o os os (ap not (eq_suc f.element.number 0 ∙ h.0)))
    ∙ root_from o (P.closed_into o f) os (root_around o f os h.1)

pub trees_are : (b : P.Builder) (c : B.Builder) → Like b c → Rooted b.stack.current b.stack.others → without_numbers (H.children_of c) ≡ whole (R.trees_of b)
trees_are b c h r =
    trees-bare (W.top (W.popped_to (W.has_number 1) c.path))
    ∙ ap H.trees_in (top-bare (W.popped_to (W.has_number 1) c.path))
    ∙ ap (λ p. H.trees_in (W.top p)) (popped_to-bare (W.has_number 1) (W.has_number 1) (λ _. refl) c.path)
    ∙ ap (λ p. H.trees_in (W.top (W.popped_to (W.has_number 1) p))) h.path ∙ root_from b.stack.current b.stack.current b.stack.others r

in_flow : (context : H.Context) → begins_in_flow (D.group context.tag.name) ≡ true → (v : Bool) (tokens : List HtmlToken) (forest : HtmlForest) → R.html_trees_where (reading_in context v) tokens ≡ Some forest →
    without_numbers (H.fragment_of_tokens (record H.standard { counts_search = v }) (flow context) tokens) ≡ whole forest
in_flow context h v tokens forest eq = by_run (R.run (Some (R.fragment (reading_in context v))) tokens) refl (Roots.run tokens (Some (R.fragment (reading_in context v))) (refl, refl)) eq
  where
    forest_same : {x y : HtmlForest} → Some x ≡ Some y → x ≡ y
    forest_same e = cc

    by_run : (o : Option P.Builder) → R.run (Some (R.fragment (reading_in context v))) tokens ≡ o → MayHaveRoot o → option_map R.trees_of o ≡ Some forest →
        without_numbers (H.fragment_of_tokens (record H.standard { counts_search = v }) (flow context) tokens) ≡ whole forest
    by_run None e r k = absurd (true≢false (sym (ap is_forest k)))
      where
        is_forest : Option HtmlForest → Bool
        is_forest None = false
        is_forest (Some x) = true
    by_run (Some after) e r k =
        let start : B.Builder = H.fragment_start (record H.standard { counts_search = v }) (flow context) in
        let goes = tokens_go tokens (R.fragment (reading_in context v)) start (inl (starts_alike context h v)) after e in
        let ends = file_goes after (M.tokens_done start (map token_of tokens)) goes in
        trees_are (R.calm after) (M.token_done (M.tokens_done start (map token_of tokens)) B.end_of_file) ends.like r.1 ∙ ap whole (forest_same k)

-- what a flow context is
pub record IsFlowContext (context : H.Context) : Type 0 where
  pub html : T.is_html context.tag ≡ true
  pub begins : begins_in_flow (D.group context.tag.name) ≡ true
  pub markup : is_raw context.tag.name ≡ false

pub flow_is : (context : H.Context) → is_flow_context context ≡ true → IsFlowContext context
flow_is context h =
    let p = and_parts (T.is_html context.tag) (begins_in_flow (D.group context.tag.name) && not (is_raw context.tag.name)) h in
    let r = and_parts (begins_in_flow (D.group context.tag.name)) (not (is_raw context.tag.name)) p.1 in
    record { html = p.0; begins = r.0; markup = not-true (is_raw context.tag.name) r.1 }

-- where the partial builder has an outcome, the whole one has the same trees in each such context element
pub partial_is_whole : (context : H.Context) (v : Bool) (tokens : List HtmlToken) (forest : HtmlForest) → is_flow_context context ≡ true → R.html_trees_where (reading_in context v) tokens ≡ Some forest →
    without_numbers (H.fragment_of_tokens (record H.standard { counts_search = v }) context tokens) ≡ whole forest
partial_is_whole context v tokens forest h eq =
    let f = flow_is context h in
    ap (λ x. without_numbers (H.fragment_of_tokens (record H.standard { counts_search = v }) x tokens)) (flow_html context f.html)
    ∙ in_flow context f.begins v tokens forest eq
