-- Which bytes spell no value.
use Rattle.std.specs.Prelude.{ℕ, List, length, nat_eq, if◌then◌else◌, Option, Some, None}
use Rattle.value_codec.specs.declared.codec.Error.{Error}
use Rattle.value_codec.specs.declared.codec.Error.TheVariants.{EndOfBuffer}

-- five bytes spell no value
abbrev pub five_refusal : List ℕ → Option Error
five_refusal bytes = if nat_eq (length bytes) 5 then Some EndOfBuffer else None
