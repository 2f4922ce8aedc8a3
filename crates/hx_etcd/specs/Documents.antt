-- The JSON texts of requests (etcd 3.4, `rpc.proto`: TxnRequest, Compare, RangeRequest, PutRequest,
-- DeleteRangeRequest, CompactionRequest; JSON mapping of Protocol Buffers 3: `bytes` as base64, 64
-- bits as a text of digits).
use Rattle.std.specs.Prelude.{ℕ, ◌-◌, nat_lt, List, codes, if◌then◌else◌}
use Rattle.std.specs.Fmt.{decimal}
use Rattle.base64.specs.Engines.{standard}
use Rattle.base64.specs.GeneralPurpose.{encode_of}
use Rattle.json.specs.Json.{Json, string, array, object, no_items, item, no_members, member}
use Rattle.json.specs.Tree.{json_tokens}
use Rattle.json.specs.Print.{print}
use Rattle.hx_fenced_log.specs.Records.{Record}
use Rattle.hx_fenced_log.specs.Texts.{spelled}
use Rattle.hx_etcd.specs.Keys.{key_of, keys_end, trim_key, copy_key, heartbeat_key}

-- base64 with padding (RFC 4648, section 4)
unfoldable pub base64_of : List ℕ → List ℕ
base64_of bytes = encode_of standard bytes

-- an object of one member
abbrev pub one_member : (name : List ℕ) → Json → Json
one_member name value = object (member name value no_members)

-- an array of one item
abbrev pub one_item : Json → Json
one_item value = array (item value no_items)

-- an array of two items
abbrev pub two_items : Json → Json → Json
two_items first second = array (item first (item second no_items))

-- ---- keys and values as they are in base64

-- that a value is put under a key, in place of what stands there
abbrev pub putting_of : (key64 value64 : List ℕ) → Json
putting_of key64 value64 =
    object (member (codes "key") (string key64)
    (member (codes "value") (string value64) no_members))

-- that a key is read
abbrev pub finding_of : (key64 : List ℕ) → Json
finding_of key64 = one_member (codes "key") (string key64)

-- ---- a transaction

-- what is said of a key: that its version is equal to 0, so that it is not there; or greater, so that
-- it is
abbrev pub absent : List ℕ
absent = codes "EQUAL"

abbrev pub present : List ℕ
present = codes "GREATER"

-- that this holds of a key
abbrev pub compare_of : (said key64 : List ℕ) → Json
compare_of said key64 =
    object (member (codes "key") (string key64)
    (member (codes "target") (string (codes "VERSION"))
    (member (codes "result") (string said)
    (member (codes "version") (string (codes "0")) no_members))))

-- what is done then: the value is put there
abbrev pub put_of : (key64 value64 : List ℕ) → Json
put_of key64 value64 = one_member (codes "requestPut") (putting_of key64 value64)

-- what is done else: the key is read
abbrev pub find_of : (key64 : List ℕ) → Json
find_of key64 = one_member (codes "requestRange") (finding_of key64)

-- the key is not there, and of another one this holds
abbrev pub transaction_of : (key64 value64 said other64 : List ℕ) → Json
transaction_of key64 value64 said other64 =
    object (member (codes "compare") (two_items (compare_of absent key64) (compare_of said other64))
    (member (codes "success") (one_item (put_of key64 value64))
    (member (codes "failure") (one_item (find_of key64)) no_members)))

-- that the keys from one up to another are deleted
abbrev pub delete_of : (first64 end64 : List ℕ) → Json
delete_of first64 end64 =
    one_member (codes "requestDeleteRange") (object (member (codes "key") (string first64)
    (member (codes "range_end") (string end64) no_members)))

-- a key is there: those from the first up to it are deleted, and a value is put under another one
abbrev pub trimming_of : (first64 end64 mark64 value64 : List ℕ) → Json
trimming_of first64 end64 mark64 value64 =
    object (member (codes "compare") (one_item (compare_of present end64))
    (member (codes "success") (two_items (delete_of first64 end64) (put_of mark64 value64))
    no_members))

-- ---- texts

-- What holds if a record of this number is the next one: the one before it is there, and in front
-- of the first one nothing was trimmed.
abbrev pub before_key : (number : ℕ) → List ℕ
before_key number = if nat_lt 1 number then key_of (number - 1) else trim_key

abbrev pub before_said : (number : ℕ) → List ℕ
before_said number = if nat_lt 1 number then present else absent

-- The text that appends a record: it is put if it is the next one and its key is not there, else
-- the key is read.
abbrev pub append_text : Record → List ℕ
append_text r =
    let n = r.head.number in
    print (json_tokens (transaction_of (base64_of (key_of n)) (base64_of (spelled r))
    (before_said n) (base64_of (before_key n))))

-- the text that trims a log in front of a record that stands there: all before it are deleted, and
-- the mark is put
abbrev pub trim_text : (number : ℕ) → List ℕ
trim_text number =
    print (json_tokens (trimming_of (base64_of (key_of 1)) (base64_of (key_of number))
    (base64_of trim_key) (base64_of (decimal number))))

-- that all that is older than a revision is given up
abbrev pub compacting_of : (revision : List ℕ) → Json
compacting_of revision = one_member (codes "revision") (string revision)

-- the text that asks for it
abbrev pub compact_text : (revision : ℕ) → List ℕ
compact_text revision = print (json_tokens (compacting_of (decimal revision)))

-- what stands from one key up to another, and how much of it at most
abbrev pub question_of : (key64 end64 most : List ℕ) → Json
question_of key64 end64 most =
    object (member (codes "key") (string key64)
    (member (codes "range_end") (string end64)
    (member (codes "limit") (string most) no_members)))

-- the text that asks for the records from a number on
abbrev pub range_text : (from most : ℕ) → List ℕ
range_text from most =
    print (json_tokens (question_of (base64_of (key_of from)) (base64_of keys_end) (decimal most)))

-- the text that writes this heartbeat of a writer
abbrev pub heartbeat_text : (writer : ℕ) → List ℕ → List ℕ
heartbeat_text writer heartbeat =
    print (json_tokens (putting_of (base64_of (heartbeat_key writer)) (base64_of heartbeat)))

-- the text that asks for it
abbrev pub heartbeat_question_text : (writer : ℕ) → List ℕ
heartbeat_question_text writer = print (json_tokens (finding_of (base64_of (heartbeat_key writer))))

-- the text by which a copy shows that it has `count` records, and the text that asks for that
abbrev pub copy_text : (copy count : ℕ) → List ℕ
copy_text copy count =
    print (json_tokens (putting_of (base64_of (copy_key copy)) (base64_of (decimal count))))

abbrev pub copy_question_text : (copy : ℕ) → List ℕ
copy_question_text copy = print (json_tokens (finding_of (base64_of (copy_key copy))))
