-- The links of a page as they are written: as they stand there, or where they lead.
use Rattle.std.specs.List.{list_any}
use Rattle.std.specs.Prelude.{Bool, IsSome, List, None, Option, Some, [], flat_map, if◌then◌else◌, map, not, true, ℕ, ⊤, ◌++◌, ◌∷◌}
use Rattle.std.specs.Str.{bytes_eq}
use Rattle.tl_answers.specs.declared.error.AnswerError.{AnswerError}
use Rattle.tl_answers.specs.declared.error.AnswerError.TheVariants.{LargeTable, LongUrl, OutOfMemory, Unread}
use Rattle.tl_answers.specs.declared.links.Hosts.{Hosts}
use Rattle.tl_answers.specs.declared.links.Hosts.TheVariants.{Any, Other, Own}
use Rattle.tl_answers.specs.declared.links.LinkBase.{LinkBase}
use Rattle.tl_answers.specs.declared.links.LinkQuery.{LinkQuery}
use Rattle.tl_tree.specs.Rows.{Row}
use Rattle.tl_tree_extract.specs.Links.{Link, links_of}
use Rattle.tl_tree_extract.specs.Resolved.{is_external, resolved}
use Rattle.tl_values.specs.Absolute.{page_base}
use Rattle.url.specs.Parts.{Parts, serialize}

-- a link is meant by the key of its attribute; each is where no key is said
abbrev pub is_meant : List (List ℕ) → Link → Bool
is_meant [] link = true
is_meant (key ∷ keys) link = list_any (bytes_eq link.attribute.key) (key ∷ keys)

-- As they stand

abbrev pub plain_line : List (List ℕ) → List ℕ → Link → List ℕ
plain_line keys end link = if is_meant keys link then link.part.bytes ++ end else []

-- Where they lead

-- a URL is on one of these hosts, seen from a page
abbrev pub is_on : Hosts → Parts → Parts → Bool
is_on Any page url = true
is_on Own page url = not (is_external page url)
is_on Other page url = is_external page url

-- what is no URL stands as it is, unless hosts are asked for
abbrev pub unled_line : Hosts → List ℕ → List ℕ → List ℕ
unled_line Any end bytes = bytes ++ end
unled_line Own end bytes = []
unled_line Other end bytes = []

abbrev pub led_line_by : Hosts → Parts → List ℕ → List ℕ → Option Parts → List ℕ
led_line_by hosts page end bytes None = unled_line hosts end bytes
led_line_by hosts page end bytes (Some url) =
    if is_on hosts page url then serialize url ++ end else []

-- a link of a page, whose document has this base
abbrev pub led_line : Hosts → Parts → Parts → List ℕ → List ℕ → List ℕ
led_line hosts page base end bytes = led_line_by hosts page end bytes (resolved base bytes)

abbrev pub meant_line : List (List ℕ) → Hosts → Parts → Parts → List ℕ → Link → List ℕ
meant_line keys hosts page base end link =
    if is_meant keys link then led_line hosts page base end link.part.bytes else []

-- What is asked for

abbrev pub link_lines_by :
    List (List ℕ) → Option LinkBase → List ℕ → List Row → List Link → List ℕ
link_lines_by keys None end rows links = flat_map (plain_line keys end) links
link_lines_by keys (Some from) end rows links =
    let page = from.page.now in
    flat_map (meant_line keys from.hosts page (page_base page rows) end) links

abbrev pub keys_of : LinkQuery → List (List ℕ)
keys_of query = map (λ key. key.now) query.keys.now

-- the links that are asked for, each with what ends it
abbrev pub link_lines : LinkQuery → List ℕ → List Row → List ℕ
link_lines query end rows = link_lines_by (keys_of query) query.base end rows (links_of rows)

-- why they aren't written: a URL is too long, where it is asked where they lead; or memory ran out
abbrev pub IsLinkReason : LinkQuery → AnswerError → Type 0
IsLinkReason query (Unread error) = ⊥
IsLinkReason query (LargeTable at) = ⊥
IsLinkReason query LongUrl = IsSome query.base
IsLinkReason query OutOfMemory = ⊤
