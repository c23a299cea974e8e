-- The identifiers of the generated IR: version 5 of RFC 9562 in the nil namespace (the texts are ours).
use Rattle.std.specs.Prelude.{ℕ, List, ◌++◌, take, codes}
use Rattle.std.specs.Fmt.{decimal}
use Rattle.sha1.specs.Sha1.{sha1}
use Rattle.uuid.specs.Parts.{with_variant, with_version, zero_bytes}
use Rattle.uuid.specs.declared.Variant.TheVariants.{RFC4122}
use Rattle.uuid.specs.declared.Version.TheVariants.{Sha1}

-- the identifier of a text
unfoldable pub identifier : List ℕ → List ℕ
identifier text = with_version (with_variant (take 16 (sha1 (zero_bytes ++ text))) RFC4122) Sha1

-- the identifier of a node of a kind, which have numbers from 0
abbrev pub numbered : List ℕ → ℕ → List ℕ
numbered kind k = identifier (codes "demo/" ++ (kind ++ (codes "/" ++ decimal k)))
