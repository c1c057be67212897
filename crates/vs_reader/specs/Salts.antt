-- The salt of the hasher of names.
use Rattle.std.specs.Prelude.{ℕ, List, fold}
use Rattle.std.specs.Hash as fed
use Rattle.std.specs.Hash.DefaultHasher as sip
use Rattle.std.specs.declared.hash.DefaultHasher.{DefaultHasher}

-- a hasher that has taken in the digest of a text
abbrev pub salted_hasher : List ℕ → DefaultHasher
salted_hasher text = fold sip.write sip.initial (fed.u64 (sip.finish (sip.write sip.initial text)))
