-- Its text is digits, one at least, and they are worth the number.
use Rattle.std.proofs.Common.{◌<◌, ◌^◌, pos, refl, sym, inl, arith}
use Rattle.std.specs.Fmt.{decimal}
use Rattle.std.proofs.lemmas.Fmt.{digits_decimal, digits_value-decimal, decimal_nonempty}
use Rattle.lua_num.specs.Bytes.{is_digit}
use Rattle.lua_num.proofs.Bytes.{each_from, digit_passing}
use Rattle.lua_num.proofs.Written.{numeral_complete}
use Rattle.lua_num.proofs.Numerals.{own, some_nonempty}
use Rattle.lua_num.proofs.numbers.decimal_reads_back.Goals as goal

pub returns : goal.returns
returns c = λ n below.
    let fits : n < 2 ^ 64 = omega arith in
    numeral_complete (decimal n) (pos n) (record {
      value = n;
      writes = inl (record {
        some = some_nonempty (decimal n) (decimal_nonempty n fits);
        digits = each_from is_digit digit_passing (decimal n) (digits_decimal own n fits);
        value_is = sym (digits_value-decimal own n fits);
      });
      small = below;
      number_is = refl;
    })
