-- The one element of a page is `html`, and in it come `head` and then `body` or `frameset`.
use Rattle.std.proofs.Common.{List, [], map, refl, subst, sym, ◌∷◌, inl, inr, ℕ}
use Rattle.tl_html_spec.specs.HtmlTokenizer.{Character, CommentToken, DoctypeToken, EndTag, HtmlToken, StartTag, data_state, without_mark}
use Rattle.tl_html_spec.specs.Driven.{Emission, doctype_of, driven_tokens, driving, in_state, plain}
use Rattle.tl_dom_spec.specs.Path.{Nodes, and_comment, and_doctype, and_element, and_text, joined, no_nodes, top}
use Rattle.tl_dom_spec.specs.Builder.{Builder, Flags, end_of_file}
use Rattle.tl_dom_spec.specs.Dispatcher.{token_done, tokens_done}
use Rattle.tl_dom_spec.specs.Driver.{builder, emitted_token}
use Rattle.tl_dom_spec.specs.HtmlForest.{HtmlForest, before, comment, doctype, element, no_trees, text}
use Rattle.tl_dom_spec.specs.HtmlTree.{document_of, html_tree_by, page_start, trees_in}
use Rattle.tl_dom_spec.specs.Lawful.{BeginsWithHead, EndsWithComments, GoesOnWithBody, IsPage, page_built}
use Rattle.tl_dom_spec.proofs.Allowed.{Each}
use Rattle.tl_dom_spec.proofs.BoundLaw.{page_done}
use Rattle.tl_dom_spec.proofs.TreesFollow.{page_is}
use Rattle.tl_dom_spec.proofs.SeatedPaths.{AreComments, ArePlain, BodyNext, HeadAlone, HtmlAlone, joined-html}
use Rattle.tl_dom_spec.proofs.SeatedRules.{IsTied}
use Rattle.tl_dom_spec.proofs.SeatedPages.{start-Page, tokens-Page}
use Rattle.tl_dom_spec.proofs.SeatedEnd.{Settled, file-Settled, whole_of}

-- trees

comments-head : (nodes : Nodes) (later : HtmlForest) → AreComments nodes → BeginsWithHead later → BeginsWithHead (before nodes later)
comments-head no_nodes later p h = h
comments-head (and_text nodes bytes) later p h = absurd p
comments-head (and_comment nodes bytes) later p h = comments-head nodes (comment bytes later) p h
comments-head (and_doctype nodes own) later p h = absurd p
comments-head (and_element nodes tag children) later p h = absurd p

head_begins : (nodes : Nodes) (later : HtmlForest) → HeadAlone nodes → GoesOnWithBody later → BeginsWithHead (before nodes later)
head_begins no_nodes later h g = absurd h
head_begins (and_text nodes bytes) later h g = head_begins nodes (text bytes later) h.1 g
head_begins (and_comment nodes bytes) later h g = head_begins nodes (comment bytes later) h g
head_begins (and_doctype nodes own) later h g = absurd h
head_begins (and_element nodes tag children) later h g = comments-head nodes (element tag (before children no_trees) later) h.1 (h.0, g)

body_follows : (nodes : Nodes) (later : HtmlForest) → BodyNext nodes → BeginsWithHead (before nodes later)
body_follows no_nodes later h = absurd h
body_follows (and_text nodes bytes) later h = body_follows nodes (text bytes later) h
body_follows (and_comment nodes bytes) later h = body_follows nodes (comment bytes later) h
body_follows (and_doctype nodes own) later h = body_follows nodes (doctype own later) h
body_follows (and_element nodes tag children) later (inl h) = body_follows nodes (element tag (before children no_trees) later) h
body_follows (and_element nodes tag children) later (inr h) = head_begins nodes (element tag (before children no_trees) later) h.1 h.0

plain-page : (nodes : Nodes) (later : HtmlForest) → ArePlain nodes → IsPage later → IsPage (before nodes later)
plain-page no_nodes later p h = h
plain-page (and_text nodes bytes) later p h = absurd p
plain-page (and_comment nodes bytes) later p h = plain-page nodes (comment bytes later) p h
plain-page (and_doctype nodes own) later p h = plain-page nodes (doctype own later) p h
plain-page (and_element nodes tag children) later p h = absurd p

html_alone : (nodes : Nodes) (later : HtmlForest) → HtmlAlone nodes → EndsWithComments later → IsPage (before nodes later)
html_alone no_nodes later h c = absurd h
html_alone (and_text nodes bytes) later h c = absurd h
html_alone (and_comment nodes bytes) later h c = html_alone nodes (comment bytes later) h c
html_alone (and_doctype nodes own) later h c = absurd h
html_alone (and_element nodes tag children) later h c =
    plain-page nodes (element tag (before children no_trees) later) h.1 (h.0, body_follows children no_trees h.2, c)

-- pages

page_of : (b : Builder) → Settled b → IsPage (document_of b).trees
page_of b s =
    let done = whole_of b s in
    subst (λ p. IsPage (trees_in (top p))) (sym done.1) (html_alone (joined done.0.children done.0.waiting) no_trees (joined-html done.0.children done.0.waiting done.2 done.3) tt)

tied_token : (token : HtmlToken) → IsTied (emitted_token (plain token))
tied_token (Character c) = tt
tied_token (StartTag name attributes closes) = record { named = refl; html = refl }
tied_token (EndTag name) = refl
tied_token (CommentToken bytes) = tt
tied_token DoctypeToken = tt

tied_emissions : (emissions : List Emission) → Each IsTied (map emitted_token emissions)
tied_emissions [] = tt
tied_emissions (plain token ∷ emissions) = (tied_token token, tied_emissions emissions)
tied_emissions (doctype_of own ∷ emissions) = (tt, tied_emissions emissions)

emitted_page : (flags : Flags) (emissions : List Emission) → IsPage (page_built flags (map emitted_token emissions)).trees
emitted_page flags emissions =
    let read : Builder = tokens_done (page_start flags) (map emitted_token emissions) in
    page_of (token_done read end_of_file)
    (file-Settled read (tokens-Page (page_start flags) (map emitted_token emissions) (tied_emissions emissions) (start-Page flags)) (page_done flags emissions end_of_file))

pub page_page : (flags : Flags) (page : List ℕ) → IsPage (html_tree_by flags page).trees
page_page flags page =
    subst (λ d. IsPage d.trees) (sym (page_is flags page))
    (emitted_page flags (driven_tokens builder (driving (page_start flags) (in_state data_state)) (without_mark page)))
