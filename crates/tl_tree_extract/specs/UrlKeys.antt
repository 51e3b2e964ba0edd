-- Which attributes hold URLs.
use Rattle.std.specs.List.{find}
use Rattle.std.specs.Option.{option_map}
use Rattle.std.specs.Prelude.{List, Option, [], codes, ℕ, ◌&&◌, ◌∷◌}
use Rattle.std.specs.Str.{bytes_eq}
use Rattle.tl_names.specs.Elements.{is_among, words, words_of}
use Rattle.tl_tree_extract.specs.declared.url_keys.UrlKind.{UrlKind}
use Rattle.tl_tree_extract.specs.declared.url_keys.UrlKind.TheVariants.{Candidates, Refresh, Whole, Words}
use Rattle.tl_tree_extract.specs.declared.url_keys.UrlKey as declared

-- a key, the HTML elements at which its value holds URLs, and how
pub record UrlKey : Type 0 where
  pub key : List ℕ
  pub names : List (List ℕ)
  pub kind : UrlKind

abbrev pub key_said : declared.UrlKey → UrlKey
key_said k = record { key = k.key.now; names = words_of k.names.now; kind = k.kind }

-- the attributes of the HTML standard's index whose values are URLs, and of those that it calls
-- obsolete `background`, `longdesc`, `manifest` and the `src` of a `frame`
unfoldable pub url_keys : List UrlKey
url_keys =
    record { key = codes "href"; names = words "a area base link"; kind = Whole }
    ∷ record {
      key = codes "src";
      names = words "audio embed frame iframe img input script source track video";
      kind = Whole;
    }
    ∷ record { key = codes "srcset"; names = words "img source"; kind = Candidates }
    ∷ record { key = codes "imagesrcset"; names = words "link"; kind = Candidates }
    ∷ record { key = codes "action"; names = words "form"; kind = Whole }
    ∷ record { key = codes "formaction"; names = words "button input"; kind = Whole }
    ∷ record { key = codes "cite"; names = words "blockquote del ins q"; kind = Whole }
    ∷ record { key = codes "data"; names = words "object"; kind = Whole }
    ∷ record { key = codes "poster"; names = words "video"; kind = Whole }
    ∷ record { key = codes "ping"; names = words "a area"; kind = Words }
    ∷ record {
      key = codes "background";
      names = words "body table tbody td tfoot th thead tr";
      kind = Whole;
    }
    ∷ record { key = codes "longdesc"; names = words "frame iframe img"; kind = Whole }
    ∷ record { key = codes "manifest"; names = words "html"; kind = Whole }
    ∷ record { key = codes "content"; names = words "meta"; kind = Refresh }
    ∷ []

-- how the value at a key holds URLs at an HTML element of a name
abbrev pub kind_at : List UrlKey → List ℕ → List ℕ → Option UrlKind
kind_at keys key name =
    option_map (λ (k : UrlKey). k.kind)
    (find (λ (k : UrlKey). bytes_eq k.key key && is_among k.names name) keys)
