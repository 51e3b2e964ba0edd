-- The trees of any tokens: in them all is allowed that the tokens give. And pages and fragments are built of tokens.
use Rattle.std.proofs.Common.{List, [], ap, false, inl, inr, le_refl, map, refl, subst, sym, true, true≢false, ℕ, ◌∙◌, ◌∷◌, ◌≡◌, ◌≤◌, ◌⊎◌}
use Rattle.tl_html_spec.specs.Driven.{Emission, driven_tokens, driving, in_state, taken}
use Rattle.tl_html_spec.specs.HtmlTokenizer.{data_state, without_mark}
use Rattle.tl_html_spec.proofs.Driving.{text_driven}
use Rattle.tl_dom_spec.proofs.Paths.{Inner, popped_to-Frames, settled_while-Frames, top-Inner}
use Rattle.tl_dom_spec.specs.Tags.{Tag}
use Rattle.tl_dom_spec.specs.Path.{Frame, Nodes, and_comment, and_doctype, and_element, and_text, has_number, joined, no_nodes, popped_to, settled_while, top}
use Rattle.tl_dom_spec.specs.Builder.{Builder, Flags, Token, end_of_file}
use Rattle.tl_dom_spec.specs.Dispatcher.{token_done, tokens_done}
use Rattle.tl_dom_spec.specs.Driver.{builder, emitted_token}
use Rattle.tl_dom_spec.specs.HtmlForest.{HtmlForest, before, comment, doctype, element, no_trees, text}
use Rattle.tl_dom_spec.specs.HtmlTree.{Context, any_frame, children_of, context_state, document_of, fragment_start, html_fragment_by, html_tree_by, page_start, trees_in}
use Rattle.tl_dom_spec.specs.Lawful.{AreApart, EachComment, EachDoctype, EachElement, EachText, all_numbered, begins_with_text, fragment_built, page_built, tokens_of_fragment, tokens_of_page}
use Rattle.tl_dom_spec.proofs.Allowed.{Allowed, Each, Good, IsText, ends_with_text, joined-Good}
use Rattle.tl_dom_spec.proofs.Kept.{Holds}
use Rattle.tl_dom_spec.proofs.HeadRules.{Allows}
use Rattle.tl_dom_spec.proofs.DispatcherRules.{after-least, fragment_start-Holds, marks_after, marks_are, page_start-Holds, token-Holds, tokens-Holds}

-- what holds of trees in which all is allowed
abbrev pub Owned : Allowed → Tag → HtmlForest → Type 0
Owned R tag below = R.Opens tag ⊎ (R.Stands tag × (below ≡ no_trees))

pub record Follows (R : Allowed) (trees : HtmlForest) : Type 0 where
  pub elements : EachElement (Owned R) trees
  pub texts : EachText (IsText R) trees
  pub apart : R.Whole → AreApart trees
  pub comments : EachComment R.Notes trees
  pub doctypes : EachDoctype R.Types trees

owned : (R : Allowed) (tag : Tag) (children : Nodes) → (R.Opens tag × Good R children) ⊎ (R.Stands tag × (children ≡ no_nodes)) → Owned R tag (before children no_trees)
owned R tag children (inl o) = inl o.0
owned R tag children (inr s) = inr (s.0, ap (λ x. before x no_trees) s.1)

inside : (R : Allowed) (tag : Tag) (children : Nodes) → (R.Opens tag × Good R children) ⊎ (R.Stands tag × (children ≡ no_nodes)) → Good R children
inside R tag children (inl o) = o.1
inside R tag children (inr s) = rw s.1 tt

-- where nodes end with a text, the trees behind them begin with none
abbrev IsBeside : Allowed → Nodes → HtmlForest → Type 0
IsBeside R nodes later = R.Whole → ends_with_text nodes ≡ true → begins_with_text later ≡ false

no_end : (R : Allowed) (nodes : Nodes) (later : HtmlForest) → (R.Whole → ends_with_text nodes ≡ false) → IsBeside R nodes later
no_end R nodes later e w y = absurd (true≢false (sym y ∙ e w))

nothing-Follows : (R : Allowed) → Follows R no_trees
nothing-Follows R = record { elements = tt; texts = tt; apart = λ _. tt; comments = tt; doctypes = tt }

before-Follows : (R : Allowed) (nodes : Nodes) (later : HtmlForest) → Good R nodes → IsBeside R nodes later → Follows R later → Follows R (before nodes later)
before-Follows R no_nodes later g e f = f
before-Follows R (and_text nodes bytes) later g e f =
    before-Follows R nodes (text bytes later) g.2 (no_end R nodes (text bytes later) g.1)
    (record { elements = f.elements; texts = (g.0, f.texts); apart = λ w. (e w refl, f.apart w); comments = f.comments; doctypes = f.doctypes })
before-Follows R (and_comment nodes bytes) later g e f =
    before-Follows R nodes (comment bytes later) g.1 (λ _ _. refl)
    (record { elements = f.elements; texts = f.texts; apart = f.apart; comments = (g.0, f.comments); doctypes = f.doctypes })
before-Follows R (and_doctype nodes own) later g e f =
    before-Follows R nodes (doctype own later) g.1 (λ _ _. refl)
    (record { elements = f.elements; texts = f.texts; apart = f.apart; comments = f.comments; doctypes = (g.0, f.doctypes) })
before-Follows R (and_element nodes tag children) later g e f =
    let i = before-Follows R children no_trees (inside R tag children g.0) (λ _ _. refl) (nothing-Follows R) in
    before-Follows R nodes (element tag (before children no_trees) later) g.1 (λ _ _. refl)
    (record {
      elements = (owned R tag children g.0, i.elements, f.elements);
      texts = (i.texts, f.texts);
      apart = λ w. (i.apart w, f.apart w);
      comments = (i.comments, f.comments);
      doctypes = (i.doctypes, f.doctypes);
    })

trees_in-Follows : (R : Allowed) (f : Frame) → Inner R f → Follows R (trees_in f)
trees_in-Follows R f i = before-Follows R (joined f.children f.waiting) no_trees (joined-Good R f.children f.waiting i.0 i.1) (λ _ _. refl) (nothing-Follows R)

pub document-Follows : (R : Allowed) (b : Builder) → Holds R b → Follows R (document_of b).trees
document-Follows R b h =
    trees_in-Follows R (top (settled_while any_frame b.path b.path))
    (top-Inner R (settled_while any_frame b.path b.path) (settled_while-Frames R any_frame b.path b.path h.0.0))

pub children-Follows : (R : Allowed) (b : Builder) → Holds R b → Follows R (children_of b)
children-Follows R b h =
    trees_in-Follows R (top (popped_to (has_number 1) b.path))
    (top-Inner R (popped_to (has_number 1) b.path) (popped_to-Frames R (has_number 1) b.path h.0.0))

-- of tokens

pub page-Follows : (R : Allowed) (flags : Flags) (tokens : List Token) → R.Scripts flags.is_scripting → R.Exceeds 0 → Each (Allows R) (all_numbered 0 tokens) → ((n : ℕ) → n ≤ marks_after 0 tokens → R.Gaps n) → Follows R (page_built flags tokens).trees
page-Follows R flags tokens s x k g =
    document-Follows R (token_done (tokens_done (page_start flags) tokens) end_of_file)
    (token-Holds R (tokens_done (page_start flags) tokens) end_of_file tt (subst R.Gaps (sym (marks_are (page_start flags) tokens)) (g (marks_after 0 tokens) (le_refl (marks_after 0 tokens))))
    (tokens-Holds R (page_start flags) tokens k g (page_start-Holds R flags s x (g 0 (after-least 0 tokens)))))

pub fragment-Follows : (R : Allowed) (flags : Flags) (context : Context) (tokens : List Token) → R.Scripts flags.is_scripting → R.Exceeds 0 → R.Around context.tag → Each (Allows R) (all_numbered 0 tokens) → ((n : ℕ) → n ≤ marks_after 0 tokens → R.Gaps n) → Follows R (fragment_built flags context tokens)
fragment-Follows R flags context tokens s x a k g =
    children-Follows R (token_done (tokens_done (fragment_start flags context) tokens) end_of_file)
    (token-Holds R (tokens_done (fragment_start flags context) tokens) end_of_file tt (subst R.Gaps (sym (marks_are (fragment_start flags context) tokens)) (g (marks_after 0 tokens) (le_refl (marks_after 0 tokens))))
    (tokens-Holds R (fragment_start flags context) tokens k g (fragment_start-Holds R flags context s x a (g 0 (after-least 0 tokens)))))

-- a page is built of its tokens, and a fragment too

pub taken_tokens : (b : Builder) (emissions : List Emission) → taken builder b emissions ≡ tokens_done b (map emitted_token emissions)
taken_tokens b [] = refl
taken_tokens b (e ∷ emissions) = taken_tokens (token_done b (emitted_token e)) emissions

pub page_is : (flags : Flags) (page : List ℕ) → html_tree_by flags page ≡ page_built flags (tokens_of_page flags page)
page_is flags page =
    ap (λ b. document_of (token_done b end_of_file))
    (text_driven builder (page_start flags) (in_state data_state) (without_mark page)
    ∙ taken_tokens (page_start flags) (driven_tokens builder (driving (page_start flags) (in_state data_state)) (without_mark page)))

pub fragment_is : (flags : Flags) (context : Context) (bytes : List ℕ) → html_fragment_by flags context bytes ≡ fragment_built flags context (tokens_of_fragment flags context bytes)
fragment_is flags context bytes =
    ap (λ b. children_of (token_done b end_of_file))
    (text_driven builder (fragment_start flags context) (in_state (context_state flags context.tag)) bytes
    ∙ taken_tokens (fragment_start flags context) (driven_tokens builder (driving (fragment_start flags context) (in_state (context_state flags context.tag))) bytes))
