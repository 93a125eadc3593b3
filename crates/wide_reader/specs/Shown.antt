-- The words of the code as plain data.
use Rattle.wide_tokens.specs.Token as word
use Rattle.wide_reader.specs.declared.word.Word.{Word, TheVariants.Name, TheVariants.Quoted, TheVariants.Int, TheVariants.Uint, TheVariants.Text, TheVariants.Bytes, TheVariants.Double, TheVariants.Mark}

-- a word of the code as plain data
abbrev pub word_view : Word → word.WideWord
word_view (Name n) = word.name n.now
word_view (Quoted n) = word.quoted n.now
word_view (Int z) = word.int z
word_view (Uint n) = word.uint n
word_view (Text said) = word.text said.now
word_view Bytes = word.bytes
word_view Double = word.double
word_view (Mark m) = word.mark m
