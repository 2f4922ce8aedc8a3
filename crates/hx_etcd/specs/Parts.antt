-- Parts of JSON texts, as tokens.
use Rattle.std.specs.Prelude.{◌≡◌, List, ◌++◌, Result, OnOk}
use Rattle.json.specs.Token as token
use Rattle.json.specs.Written.{Written}
use Rattle.hx_etcd.specs.declared.parts.Part.{Part}
use Rattle.hx_etcd.specs.declared.parts.Part.TheVariants.{Object, EndObject, Array, EndArray, Key, Text}

abbrev pub token_of : Part → token.Token
token_of Object = token.begin_object
token_of EndObject = token.end_object
token_of Array = token.begin_array
token_of EndArray = token.end_array
token_of (Key name) = token.key name.now
token_of (Text text) = token.string text.now

-- on success these tokens are added after those that there were
pub record Adds {E : Type 0} (r : Result (Unit {0}) E) (old new : Written) (ts : List token.Token)
    : Type 0 where
  pub before : OnOk r (new.before ≡ old.before)
  pub tokens : OnOk r (new.tokens ≡ old.tokens ++ ts)
