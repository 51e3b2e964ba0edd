-- What becomes of a tag, by the answers of the code.
use Rattle.std.specs.Prelude.{◌≡◌, ℕ, Bool, true, false, not, ◌||◌, ◌&&◌, List, [], ◌∷◌, ◌++◌, codes, is_some}
use Rattle.tl_names.specs.Elements.{closed_at_once, feed_droppers, is_among, table_parts}
use Rattle.tl_html_spec.specs.HtmlTokenizer.{HtmlAttribute, HtmlToken, StartTag, EndTag}
use Rattle.tl_html_spec.specs.Balanced.{Balanced, Closing, Names, depth, is_foreign, is_head, is_one_of, is_raw, is_table_bound, never, opened}
use Rattle.tl_html_balance.specs.declared.balance.PutIn.{PutIn}
use Rattle.tl_html_balance.specs.declared.balance.PutIn.TheVariants as puts
use Rattle.tl_html_balance.specs.declared.balance.Opening.{Opening}
use Rattle.tl_html_balance.specs.declared.balance.Opening.TheVariants as opens

-- what an end tag of a name puts in
abbrev pub tokens_put_in : PutIn → List ℕ → List HtmlToken
tokens_put_in puts.Nothing n = []
tokens_put_in puts.LineBreak n = StartTag n [] false ∷ []
tokens_put_in puts.Paragraph n = StartTag n [] false ∷ EndTag n ∷ []

-- a start tag that stays, after what it ended
abbrev pub opened_as : Opening → Closing → List ℕ → List HtmlAttribute → Balanced
opened_as opens.Void c n attributes = record {
  emits = c.ends ++ StartTag n attributes false ∷ [];
  next = record { open_tags = c.left; drops_feed = false };
}
opened_as opens.ClosedAtOnce c n attributes = record {
  emits = c.ends ++ (StartTag n attributes false ∷ EndTag n ∷ []);
  next = record { open_tags = c.left; drops_feed = is_among feed_droppers n };
}
opened_as opens.Open c n attributes = record {
  emits = c.ends ++ StartTag n attributes false ∷ [];
  next = record { open_tags = n ∷ c.left; drops_feed = is_among feed_droppers n };
}

-- what becomes of a start tag of a name where these are left
abbrev pub Opens : Opening → List ℕ → Bool → Names → Type 0
Opens opening n closes left =
    (c : Closing) (attributes : List HtmlAttribute) → c.left ≡ left
    → opened c n attributes closes ≡ opened_as opening c n attributes

abbrev pub is_closed_at_once : List ℕ → Bool → Names → Bool
is_closed_at_once n closes left =
    is_among closed_at_once n
    || (closes && not (is_raw n) && (is_foreign left || is_one_of (codes "svg math") n))

-- a start tag that is dropped, if it is not foreign
abbrev pub is_misplaced : List ℕ → Names → Bool
is_misplaced n tags =
    (is_one_of (codes "html") n && is_some (depth (λ x. true) never tags))
    || (is_head n && is_some (depth (λ x. not (is_one_of (codes "html") x)) never tags))
    || (is_one_of (codes "body") n && is_some
    (depth (λ x. not (is_one_of (codes "html head") x)) never tags))
    || (is_one_of (codes "form") n && is_some
    (depth (is_one_of (codes "form")) (is_one_of (codes "template")) tags))
    || (is_among table_parts n && not (is_some (depth is_table_bound never tags)))
