-- Where links lead: URLs by the URL Standard, which the kit's `url` reads.
use Rattle.std.specs.Prelude.{Bool, Err, List, None, Ok, Option, Some, codes, false, if◌then◌else◌, not, option_map, true, ℕ, ◌||◌}
use Rattle.std.specs.Str.{bytes_eq}
use Rattle.std.specs.Str.Lossy.{utf8_lossy}
use Rattle.url.specs.Host.{host_text}
use Rattle.url.specs.Parser.{Parsed, parse_url}
use Rattle.url.specs.Parts.{Parts, nonempty_host}

-- what is no URL is none
abbrev pub url_of : Parsed Parts → Option Parts
url_of (Ok url) = Some url
url_of (Err e) = None

-- where a link leads from a base
abbrev pub resolved : Parts → List ℕ → Option Parts
resolved base link = url_of (parse_url (Some base) (utf8_lossy link))

-- a `base` can't lead to these
abbrev pub is_refused_base : Parts → Bool
is_refused_base url =
    bytes_eq url.scheme (codes "data") || bytes_eq url.scheme (codes "javascript")

abbrev pub unless_refused : Parts → Option Parts → Parts
unless_refused page None = page
unless_refused page (Some url) = if is_refused_base url then page else url

-- the base URL of a document (4.2.3), where the page has this URL and its `base` this `href`
abbrev pub document_base : Parts → Option (List ℕ) → Parts
document_base page None = page
document_base page (Some href) = unless_refused page (resolved page href)

-- the text of a host, if there is one
abbrev pub host_of : Parts → Option (List ℕ)
host_of url = option_map host_text (nonempty_host url)

abbrev pub is_same : Option (List ℕ) → Option (List ℕ) → Bool
is_same None None = true
is_same None (Some host) = false
is_same (Some own) None = false
is_same (Some own) (Some host) = bytes_eq own host

-- a URL leads to another host than the base has
abbrev pub is_external : Parts → Parts → Bool
is_external base url = not (is_same (host_of base) (host_of url))
