-- Keys of which browsers compare the values in any case, at HTML elements.
use Rattle.std.specs.Prelude.{ℕ, List, ◌++◌}
use Rattle.tl_names.specs.Elements.{words}

-- "case-sensitivity of selectors" of the HTML standard: 46 keys
abbrev pub any_case_keys : List (List ℕ)
any_case_keys =
    words "accept accept-charset align alink axis bgcolor charset checked clear codetype color"
    ++ words "compact declare defer dir direction disabled enctype face frame hreflang http-equiv"
    ++ words "lang language link media method multiple nohref noresize noshade nowrap readonly rel"
    ++ words "rev rules scope scrolling selected shape target text type valign valuetype vlink"
