-- What characters of a print do at a place of a page: they go in, and white space between parts of a table waits.
use Rattle.std.proofs.Common.{Bool, List, [], ap, append-nil, append_assoc, false, if◌then◌else◌, map, not, refl, subst, sym, true, true≢false, ℕ, ◌++◌, ◌==◌, ◌∙◌, ◌∷◌, ◌≡◌}
use Rattle.std.specs.Prelude.{⊤}
use Rattle.std.specs.Char.{is_ascii_whitespace}
use Rattle.std.specs.List.{list_all}
use Rattle.std.proofs.lemmas.Bool.{and_from, and_parts, cond-false, cond-true, eqb-true, false_from_ne_true, not-true}
use Rattle.tl_html_spec.specs.HtmlTokenizer.{Character}
use Rattle.tl_tree_spec.specs.Builder as P
use Rattle.tl_tree_spec.proofs.Texts.{with_characters}
use Rattle.tl_dom_spec.specs.Body as D
use Rattle.tl_dom_spec.specs.Builder as B
use Rattle.tl_dom_spec.specs.Dispatcher as M
use Rattle.tl_html_spec.specs.Driven.{GoesByName, plain}
use Rattle.tl_dom_spec.specs.Driver.{builder, token_of}
use Rattle.tl_dom_spec.specs.Formatting as F
use Rattle.tl_dom_spec.specs.Marks.{Marked, marked, unmarked}
use Rattle.tl_dom_spec.specs.Path as W
use Rattle.tl_dom_spec.specs.Tables as S
use Rattle.tl_dom_spec.specs.Tags as T
use Rattle.tl_dom_spec.proofs.PartPaths.{nodes_of}
use Rattle.tl_dom_spec.proofs.PartSources.{bare_nodes, joined-bare}
use Rattle.tl_tree_safe.proofs.PageStates.{Counts, by-mode, calmed, grown, state, text-behind, text-put, text-text, ticked, token-again, token-goes}
use Rattle.tl_tree_safe.proofs.PageStarts.{is_between, is_flow_mode}
use Rattle.tl_tree_safe.proofs.PageTags.{mode_at}

-- White space that waits

abbrev pub held : B.Builder → W.Path → List B.Entry → B.Mode → Counts → List ℕ → B.Builder
held b p a m k [] = state b p a m false k
held b p a m k (w ∷ ws) = state b p a B.in_table_text false (record k { original = m; pending = w ∷ ws })

-- once it is put in
abbrev pub put_in : W.Nodes → List ℕ → ℕ → W.Nodes
put_in nodes [] n = nodes
put_in nodes (w ∷ ws) n = W.with_text nodes (marked n (w ∷ ws))

abbrev pub flushed : Counts → B.Mode → List ℕ → Counts
flushed k m [] = calmed k
flushed k m (w ∷ ws) = record (calmed k) { original = m; pending = w ∷ ws }

-- the current element is one of HTML, so the tokenizer is in none that is foreign
pub held-home : (b : B.Builder) (f : W.Frame) (nodes : W.Nodes) (rest : W.Path) (a : List B.Entry) (m : B.Mode) (k : Counts) (ws : List ℕ) → T.is_html f.tag ≡ true →
    builder.is_foreign (held b (grown f nodes ∷ rest) a m k ws) ≡ false
held-home b f nodes rest a m k [] h = ap not h
held-home b f nodes rest a m k (w ∷ ws) h = ap not h

-- between parts of a table alone
abbrev pub IsHeld : P.Mode → List ℕ → Type 0
IsHeld m [] = ⊤
IsHeld m (w ∷ ws) = (is_between m ≡ true) × (list_all is_ascii_whitespace (w ∷ ws) ≡ true)

-- a tag puts it in first
pub enters : (b : B.Builder) (f : W.Frame) (nodes : W.Nodes) (rest : W.Path) (a : List B.Entry) (m : B.Mode) (k : Counts) (n : P.Mode) (ws : List ℕ) (t : B.Token) →
    T.is_html f.tag ≡ true → IsHeld n ws → ((c : B.Builder) → S.in_table_text_step c (M.numbered k.marks t) ≡ B.Again (B.switch_to c.original (S.pending_inserted c))) →
    (q : W.Path) (e : List B.Entry) (to : B.Mode) (s : Bool) (j : Counts) →
    M.dispatch (M.numbered k.marks t) (state b (grown f (put_in nodes ws k.marks) ∷ rest) a m false (flushed k m ws)) ≡ B.Done (state b q e to s j) →
    M.token_done (held b (grown f nodes ∷ rest) a m k ws) t ≡ state b q e to s (ticked j (M.marks_behind k.marks t))
enters b f nodes rest a m k n [] t h w x q e to s j d = token-goes b (grown f nodes ∷ rest) a m k t q e to s j d
enters b f nodes rest a m k n (w₁ ∷ ws) t h w x q e to s j d =
    let p : W.Path = grown f nodes ∷ rest in
    let k₁ : Counts = record k { original = m; pending = w₁ ∷ ws } in
    let c : B.Builder = state b p a B.in_table_text false (calmed k₁) in
    token-again b p a B.in_table_text k₁ t (state b (grown f (W.with_text nodes (marked k.marks (w₁ ∷ ws))) ∷ rest) a m false (flushed k m (w₁ ∷ ws))) q e to s j
    (by-mode b (grown f nodes) rest a B.in_table_text false (calmed k₁) (M.numbered k.marks t) h
    ∙ x c
    ∙ ap (λ y. B.Again (B.switch_to m y)) (cond-true _ _ _ w.1)
    ∙ ap (λ (y : W.Path). B.Again (B.switch_to m (B.with_path c y))) (text-put f rest nodes (marked k.marks (w₁ ∷ ws))))
    d

-- Nodes as those of the partial builder

pub record Same (nodes : W.Nodes) (own : P.Nodes) : Type 0 where
  pub bare : bare_nodes nodes ≡ nodes_of own
  pub neat : W.joined W.no_nodes nodes ≡ nodes

character-in : (nodes : P.Nodes) (x : ℕ) → W.with_text (nodes_of nodes) (unmarked (x ∷ [])) ≡ nodes_of (P.and_character nodes x)
character-in P.no_nodes x = refl
character-in (P.and_text nodes bytes) x = refl
character-in (P.and_element nodes own children) x = refl

characters-in : (nodes : P.Nodes) (x : ℕ) (xs : List ℕ) → W.with_text (nodes_of nodes) (unmarked (x ∷ xs)) ≡ nodes_of (with_characters (P.and_character nodes x) xs)
characters-in nodes x [] = character-in nodes x
characters-in nodes x (y ∷ ys) =
    sym (text-text (nodes_of nodes) (unmarked (x ∷ [])) (unmarked (y ∷ ys)))
    ∙ ap (λ z. W.with_text z (unmarked (y ∷ ys))) (character-in nodes x)
    ∙ characters-in (P.and_character nodes x) y ys

text-neat : (nodes : W.Nodes) (own : Marked (List ℕ)) → W.joined W.no_nodes nodes ≡ nodes → W.joined W.no_nodes (W.with_text nodes own) ≡ W.with_text nodes own
text-neat nodes own h = sym (text-behind W.no_nodes nodes own) ∙ ap (λ z. W.with_text z own) h

pub same-text : {nodes : W.Nodes} {own : P.Nodes} (n : ℕ) (bytes : List ℕ) → Same nodes own → Same (put_in nodes bytes n) (with_characters own bytes)
same-text n [] s = s
same-text {nodes} {own} n (x ∷ xs) s = record {
  bare = joined-bare nodes (W.and_text W.no_nodes (marked n (x ∷ xs))) ∙ ap (λ z. W.with_text z (unmarked (x ∷ xs))) s.bare ∙ characters-in own x xs;
  neat = text-neat nodes (marked n (x ∷ xs)) s.neat;
}

put-more : (nodes : W.Nodes) (ws bytes : List ℕ) (n : ℕ) → put_in (put_in nodes ws n) bytes n ≡ put_in nodes (ws ++ bytes) n
put-more nodes [] bytes n = refl
put-more nodes (w ∷ ws) [] n = ap (λ (z : List ℕ). W.with_text nodes (marked n (w ∷ z))) (sym (append-nil ws))
put-more nodes (w ∷ ws) (c ∷ cs) n = text-text nodes (marked n (w ∷ ws)) (marked n (c ∷ cs))

pub same-held : {own : P.Nodes} (nodes : W.Nodes) (n : ℕ) (ws bytes : List ℕ) → Same (put_in nodes ws n) own → Same (put_in nodes (ws ++ bytes) n) (with_characters own bytes)
same-held {own} nodes n ws bytes s = subst (λ z. Same z (with_characters own bytes)) (put-more nodes ws bytes n) (same-text n bytes s)

-- Characters

abbrev pub spoken : List ℕ → List B.Token
spoken bytes = map token_of (map Character bytes)

no_nul : (x : ℕ) → is_ascii_whitespace x ≡ true → (x == 0) ≡ false
no_nul x k = false_from_ne_true (x == 0) (λ y. true≢false (sym k ∙ ap is_ascii_whitespace (eqb-true x 0 y)))

-- what characters change beside: the frameset-ok flag is off if it was
pub record Spoke (k j : Counts) : Type 0 where
  pub next : j.next ≡ k.next
  pub marks : j.marks ≡ k.marks
  pub ok : k.is_frameset_ok ≡ false → j.is_frameset_ok ≡ false

spoke-on : {k j i : Counts} → Spoke k j → Spoke j i → Spoke k i
spoke-on x y = record { next = y.next ∙ x.next; marks = y.marks ∙ x.marks; ok = λ h. y.ok (x.ok h) }

spoke-none : (k : Counts) → Spoke k k
spoke-none k = record { next = refl; marks = refl; ok = λ h. h }

module _ (b : B.Builder) (f : W.Frame) (rest : W.Path) (html : T.is_html f.tag ≡ true) (a : List B.Entry) where
  abbrev there : W.Nodes → B.Mode → Counts → B.Builder
  there nodes m k = state b (grown f nodes ∷ rest) a m false k

  -- in the flow

  flow-step : (m : B.Mode) (c : B.Builder) (x : ℕ) → is_flow_mode m ≡ true → M.mode_step m c (B.a_character x) ≡ B.Done (D.body_character x c)
  flow-step B.in_body c x h = refl
  flow-step B.in_cell c x h = refl
  flow-step B.in_caption c x h = refl
  flow-step _ c x h = absurd (true≢false (sym h))

  abbrev after_one : Counts → ℕ → Counts
  after_one k x = record (calmed k) { is_frameset_ok = if is_ascii_whitespace x then k.is_frameset_ok else false }

  abbrev ready : B.Mode → Type 0
  ready m = (nodes : W.Nodes) (k : Counts) → F.reconstruct_formatting (there nodes m k) ≡ there nodes m k

  flow-character : (nodes : W.Nodes) (m : B.Mode) (k : Counts) (x : ℕ) → is_flow_mode m ≡ true → ready m → (x == 0) ≡ false →
      M.token_done (there nodes m k) (B.a_character x) ≡ there (W.with_text nodes (marked k.marks (x ∷ []))) m (ticked (after_one k x) k.marks)
  flow-character nodes m k x fl r z =
      token-goes b (grown f nodes ∷ rest) a m k (B.a_character x) (grown f (W.with_text nodes (marked k.marks (x ∷ []))) ∷ rest) a m false (after_one k x)
      (by-mode b (grown f nodes) rest a m false (calmed k) (B.a_character x) html
      ∙ flow-step m (there nodes m (calmed k)) x fl
      ∙ ap B.Done (cond-false _ _ _ z)
      ∙ ap (λ c. B.Done (if is_ascii_whitespace x then B.insert_character x c else B.frameset_not_ok (B.insert_character x c))) (r nodes (calmed k))
      ∙ ap (λ (p : W.Path). let c : B.Builder = B.with_path (there nodes m (calmed k)) p in B.Done (if is_ascii_whitespace x then c else B.frameset_not_ok c)) (text-put f rest nodes (marked k.marks (x ∷ [])))
      ∙ either (is_ascii_whitespace x))
    where
      either : (v : Bool) → B.Done (if v then there (W.with_text nodes (marked k.marks (x ∷ []))) m (calmed k) else B.frameset_not_ok (there (W.with_text nodes (marked k.marks (x ∷ []))) m (calmed k)))
          ≡ B.Done (there (W.with_text nodes (marked k.marks (x ∷ []))) m (record (calmed k) { is_frameset_ok = if v then k.is_frameset_ok else false }))
      either true = refl
      either false = refl

  one-spoke : (k : Counts) (x : ℕ) → Spoke k (ticked (after_one k x) k.marks)
  one-spoke k x = record { next = refl; marks = refl; ok = λ h. off (is_ascii_whitespace x) h }
    where
      off : (v : Bool) → k.is_frameset_ok ≡ false → (if v then k.is_frameset_ok else false) ≡ false
      off true h = h
      off false h = refl

  pub record Told (nodes : W.Nodes) (own : P.Nodes) (m : B.Mode) (k : Counts) (bytes : List ℕ) : Type 0 where
    pub to : W.Nodes
    pub counts : Counts
    pub spoke : Spoke k counts
    pub same : Same to (with_characters own bytes)
    pub runs : M.tokens_done (there nodes m k) (spoken bytes) ≡ there to m counts
    pub goes : GoesByName builder (there nodes m k) (map plain (map Character bytes))

  pub flow-text : (bytes : List ℕ) (nodes : W.Nodes) (own : P.Nodes) (m : B.Mode) (k : Counts) → is_flow_mode m ≡ true → ready m →
      list_all (λ x. not (x == 0)) bytes ≡ true → Same nodes own → Told nodes own m k bytes
  flow-text [] nodes own m k fl r h s = record { to = nodes; counts = k; spoke = spoke-none k; same = s; runs = refl; goes = ap not html }
  flow-text (x ∷ xs) nodes own m k fl r h s =
      let two = and_parts (not (x == 0)) (list_all (λ x. not (x == 0)) xs) h in
      let more = flow-text xs (W.with_text nodes (marked k.marks (x ∷ []))) (P.and_character own x) m (ticked (after_one k x) k.marks) fl r two.1 (same-text k.marks (x ∷ []) s) in
      record {
        to = more.to;
        counts = more.counts;
        spoke = spoke-on (one-spoke k x) more.spoke;
        same = more.same;
        runs = ap (λ c. M.tokens_done c (spoken xs)) (flow-character nodes m k x fl r (not-true (x == 0) two.0)) ∙ more.runs;
        goes = (ap not html, tt, subst (λ c. GoesByName builder c (map plain (map Character xs))) (sym (flow-character nodes m k x fl r (not-true (x == 0) two.0))) more.goes);
      }

  -- in a column group

  column-character : (nodes : W.Nodes) (k : Counts) (x : ℕ) → is_ascii_whitespace x ≡ true →
      M.token_done (there nodes B.in_column_group k) (B.a_character x) ≡ there (W.with_text nodes (marked k.marks (x ∷ []))) B.in_column_group (ticked (calmed k) k.marks)
  column-character nodes k x z =
      token-goes b (grown f nodes ∷ rest) a B.in_column_group k (B.a_character x) (grown f (W.with_text nodes (marked k.marks (x ∷ []))) ∷ rest) a B.in_column_group false (calmed k)
      (by-mode b (grown f nodes) rest a B.in_column_group false (calmed k) (B.a_character x) html
      ∙ cond-true _ _ _ z
      ∙ ap (λ (p : W.Path). B.Done (B.with_path (there nodes B.in_column_group (calmed k)) p)) (text-put f rest nodes (marked k.marks (x ∷ []))))

  pub column-text : (bytes : List ℕ) (nodes : W.Nodes) (own : P.Nodes) (k : Counts) → list_all is_ascii_whitespace bytes ≡ true → Same nodes own → Told nodes own B.in_column_group k bytes
  column-text [] nodes own k h s = record { to = nodes; counts = k; spoke = spoke-none k; same = s; runs = refl; goes = ap not html }
  column-text (x ∷ xs) nodes own k h s =
      let two = and_parts (is_ascii_whitespace x) (list_all is_ascii_whitespace xs) h in
      let more = column-text xs (W.with_text nodes (marked k.marks (x ∷ []))) (P.and_character own x) (ticked (calmed k) k.marks) two.1 (same-text k.marks (x ∷ []) s) in
      record {
        to = more.to;
        counts = more.counts;
        spoke = spoke-on (record { next = refl; marks = refl; ok = λ h. h }) more.spoke;
        same = more.same;
        runs = ap (λ c. M.tokens_done c (spoken xs)) (column-character nodes k x two.0) ∙ more.runs;
        goes = (ap not html, tt, subst (λ c. GoesByName builder c (map plain (map Character xs))) (sym (column-character nodes k x two.0)) more.goes);
      }

  -- between parts of a table

  between-step : (around : B.Mode) (n : P.Mode) (c : B.Builder) (x : ℕ) → is_between n ≡ true → M.mode_step (mode_at around n) c (B.a_character x) ≡ S.table_character c x
  between-step around P.in_table c x h = refl
  between-step around P.in_table_body c x h = refl
  between-step around P.in_row c x h = refl
  between-step around _ c x h = absurd (true≢false (sym h))

  module _ (around : B.Mode) (n : P.Mode) (is : is_between n ≡ true) (text : S.is_text_in_table f.tag ≡ true) (nodes : W.Nodes) where
    abbrev own_mode : B.Mode
    own_mode = mode_at around n

    abbrev path_here : W.Path
    path_here = grown f nodes ∷ rest

    abbrev waiting : Counts → List ℕ → B.Builder
    waiting k ws = held b path_here a own_mode k ws

    waits : (ws : List ℕ) (k : Counts) (x : ℕ) → is_ascii_whitespace x ≡ true → M.token_done (waiting k ws) (B.a_character x) ≡ waiting (ticked (calmed k) k.marks) (ws ++ x ∷ [])
    waits [] k x z =
        token-again b path_here a own_mode k (B.a_character x) (state b path_here a B.in_table_text false (record (calmed k) { original = own_mode; pending = [] }))
        path_here a B.in_table_text false (record (calmed k) { original = own_mode; pending = x ∷ [] })
        (by-mode b (grown f nodes) rest a own_mode false (calmed k) (B.a_character x) html
        ∙ between-step around n (state b path_here a own_mode false (calmed k)) x is
        ∙ cond-true _ _ _ text)
        (by-mode b (grown f nodes) rest a B.in_table_text false (record (calmed k) { original = own_mode; pending = [] }) (B.a_character x) html
        ∙ ap B.Done (cond-false _ _ _ (no_nul x z)))
    waits (w ∷ ws) k x z =
        let k₁ : Counts = record k { original = own_mode; pending = w ∷ ws } in
        token-goes b path_here a B.in_table_text k₁ (B.a_character x)
        path_here a B.in_table_text false (record (calmed k) { original = own_mode; pending = w ∷ (ws ++ x ∷ []) })
        (by-mode b (grown f nodes) rest a B.in_table_text false (calmed k₁) (B.a_character x) html
        ∙ ap B.Done (cond-false _ _ _ (no_nul x z)))

    pub record Waited (k : Counts) (ws bytes : List ℕ) : Type 0 where
      pub counts : Counts
      pub spoke : Spoke k counts
      pub runs : M.tokens_done (waiting k ws) (spoken bytes) ≡ waiting counts (ws ++ bytes)
      pub goes : GoesByName builder (waiting k ws) (map plain (map Character bytes))

    pub between-text : (bytes ws : List ℕ) (k : Counts) → list_all is_ascii_whitespace bytes ≡ true → Waited k ws bytes
    between-text [] ws k h = record { counts = k; spoke = spoke-none k; runs = ap (waiting k) (sym (append-nil ws)); goes = held-home b f nodes rest a own_mode k ws html }
    between-text (x ∷ xs) ws k h =
        let two = and_parts (is_ascii_whitespace x) (list_all is_ascii_whitespace xs) h in
        let more = between-text xs (ws ++ x ∷ []) (ticked (calmed k) k.marks) two.1 in
        record {
          counts = more.counts;
          spoke = spoke-on (record { next = refl; marks = refl; ok = λ h. h }) more.spoke;
          runs = ap (λ c. M.tokens_done c (spoken xs)) (waits ws k x two.0) ∙ more.runs ∙ ap (waiting more.counts) (append_assoc ws (x ∷ []) xs);
          goes = (held-home b f nodes rest a own_mode k ws html, tt, subst (λ c. GoesByName builder c (map plain (map Character xs))) (sym (waits ws k x two.0)) more.goes);
        }

    pub held-more : (ws bytes : List ℕ) → IsHeld n ws → list_all is_ascii_whitespace bytes ≡ true → IsHeld n (ws ++ bytes)
    held-more [] [] w h = tt
    held-more [] (x ∷ xs) w h = (is, h)
    held-more (w₁ ∷ ws) bytes w h = (is, all (w₁ ∷ ws) w.1)
      where
        all : (vs : List ℕ) → list_all is_ascii_whitespace vs ≡ true → list_all is_ascii_whitespace (vs ++ bytes) ≡ true
        all [] g = h
        all (v ∷ vs) g =
            let two = and_parts (is_ascii_whitespace v) (list_all is_ascii_whitespace vs) g in
            and_from (is_ascii_whitespace v) (list_all is_ascii_whitespace (vs ++ bytes)) two.0 (all vs two.1)
