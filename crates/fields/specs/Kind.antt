-- The kinds of fields: FIX's tag of each, and its value.
use Rattle.std.specs.Prelude.{ℕ, Bool, ◌||◌, List, ◌==◌}
use Rattle.fields.specs.declared.field.Field.{Field}
use Rattle.fields.specs.declared.field.Field.TheVariants.{BeginString, BodyLength, CheckSum, ClOrdId, MsgSeqNum, MsgType, OrderQty, OrigClOrdId, Price, SenderCompId, Side}

abbrev pub tag_of : Field → ℕ
tag_of (BeginString v) = 8
tag_of (BodyLength v) = 9
tag_of (CheckSum v) = 10
tag_of (ClOrdId v) = 11
tag_of (MsgSeqNum v) = 34
tag_of (MsgType v) = 35
tag_of (OrderQty v) = 38
tag_of (OrigClOrdId v) = 41
tag_of (Price v) = 44
tag_of (SenderCompId v) = 49
tag_of (Side v) = 54

abbrev pub value_of : Field → List ℕ
value_of (BeginString v) = v.now
value_of (BodyLength v) = v.now
value_of (CheckSum v) = v.now
value_of (ClOrdId v) = v.now
value_of (MsgSeqNum v) = v.now
value_of (MsgType v) = v.now
value_of (OrderQty v) = v.now
value_of (OrigClOrdId v) = v.now
value_of (Price v) = v.now
value_of (SenderCompId v) = v.now
value_of (Side v) = v.now

-- the tags of these kinds
abbrev pub known : ℕ → Bool
known t = t == 8 || (t == 9 || (t == 10 || (t == 11 || (t == 34 || (t == 35 || (t == 38 || (t == 41 || (t == 44 || (t == 49 || t == 54)))))))))
