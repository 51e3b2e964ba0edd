-- Why nothing is made.
use Rattle.tl_cli.specs.declared.args.UsageError.{UsageError}
use Rattle.tl_cli.specs.declared.args.UsageError.TheVariants.{Clap, NoCommand, NoNumber, NoTable, NoSelector, NoKey, NoName, NoFile, NoSuffix, NoEncoding, NoValue, NoWord, NoLiteral, NoRegex, NoUrl, NoNames, NoColumn, NoJson, NoPlace, InputTwice, OutOfMemory}

-- a word is no selector or number, a key or a name can't be written, no value is said, nor what
-- columns are of, or places are asked for beside these, or trees without JSON, a word of a value or
-- what is to be replaced is none, a text is no URL or no pattern of names, standard input has no
-- file or is meant twice, a suffix is empty, or a label is of no encoding
abbrev pub IsWrongWord : UsageError → Type 0
IsWrongWord (Clap error) = ⊥
IsWrongWord NoCommand = ⊥
IsWrongWord (NoNumber word) = Unit {0}
IsWrongWord (NoTable word) = Unit {0}
IsWrongWord (NoSelector error text) = Unit {0}
IsWrongWord (NoKey key) = Unit {0}
IsWrongWord (NoName name) = Unit {0}
IsWrongWord NoValue = Unit {0}
IsWrongWord (NoWord word) = Unit {0}
IsWrongWord NoLiteral = Unit {0}
IsWrongWord (NoRegex error text) = Unit {0}
IsWrongWord (NoUrl error text) = Unit {0}
IsWrongWord (NoNames text) = Unit {0}
IsWrongWord NoFile = Unit {0}
IsWrongWord InputTwice = Unit {0}
IsWrongWord NoSuffix = Unit {0}
IsWrongWord NoColumn = Unit {0}
IsWrongWord NoPlace = Unit {0}
IsWrongWord NoJson = Unit {0}
IsWrongWord (NoEncoding label) = Unit {0}
IsWrongWord OutOfMemory = ⊥
