-- What becomes of a start tag that is written.
use Rattle.std.specs.Prelude.{ℕ, false, List, [], ◌∷◌}
use Rattle.tl_names.specs.Elements.{feed_droppers, is_among}
use Rattle.tl_html_spec.specs.HtmlTokenizer.{HtmlToken, EndTag}
use Rattle.tl_html_spec.specs.Balanced.{Balance, Names}
use Rattle.tl_html_balance.specs.declared.balance.Opening.{Opening}
use Rattle.tl_html_balance.specs.declared.balance.Opening.TheVariants.{Void, ClosedAtOnce, Open}

-- what follows it
abbrev pub opened_tokens : Opening → List ℕ → List HtmlToken
opened_tokens Void n = []
opened_tokens ClosedAtOnce n = EndTag n ∷ []
opened_tokens Open n = []

-- and what is open then
abbrev pub opened_tags : Opening → List ℕ → Names → Balance
opened_tags Void n tags = record { open_tags = tags; drops_feed = false }
opened_tags ClosedAtOnce n tags = record {
  open_tags = tags;
  drops_feed = is_among feed_droppers n;
}
opened_tags Open n tags = record {
  open_tags = n ∷ tags;
  drops_feed = is_among feed_droppers n;
}
