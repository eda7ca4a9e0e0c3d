-- To be believed. The values of the program, by themselves (manual 2.2).
use Rattle.std.specs.Prelude.{Bool, true, false, nat_eq}
use Rattle.std.specs.Bool.{beq as bool_eq}
use Rattle.std.specs.Ordering.{int_eq}
use Rattle.lua_model.specs.declared.Value.{Value}
use Rattle.lua_model.specs.declared.Value.TheVariants.{Nil, Bool as Boolean, Number, Text, Table, Closure, Native, Host}
use Rattle.lua_model.specs.declared.Kind.{Kind}
use Rattle.lua_model.specs.declared.Kind.TheVariants as kind

abbrev pub is_true_value : Value → Bool
is_true_value Nil = false
is_true_value (Boolean b) = b
is_true_value _ = true

abbrev pub kind_of : Value → Kind
kind_of Nil = kind.Nil
kind_of (Boolean b) = kind.Bool
kind_of (Number n) = kind.Number
kind_of (Text t) = kind.Text
kind_of (Table t) = kind.Table
kind_of _ = kind.Function

abbrev pub same_value : Value → Value → Bool
same_value Nil Nil = true
same_value (Boolean a) (Boolean b) = bool_eq a b
same_value (Number a) (Number b) = int_eq a b
same_value (Text a) (Text b) = nat_eq a.index b.index
same_value (Table a) (Table b) = nat_eq a.index b.index
same_value (Closure a) (Closure b) = nat_eq a.index b.index
same_value (Native a) (Native b) = nat_eq a b
same_value (Host a) (Host b) = nat_eq a b
same_value _ _ = false
