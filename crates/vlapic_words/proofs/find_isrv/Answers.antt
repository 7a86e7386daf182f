use Rattle.vlapic_words.proofs.Search.{found_7, found_6, found_5, found_4, found_3, found_2, found_1, found_none}
use Rattle.vlapic_words.proofs.find_isrv.Goals as goal

pub returns-then-w7-ne0 : goal.returns-then-w7-ne0
returns-then-w7-ne0 c = search found_7

pub returns-then-w6-ne0 : goal.returns-then-w6-ne0
returns-then-w6-ne0 c = search found_6

pub returns-then-w5-ne0 : goal.returns-then-w5-ne0
returns-then-w5-ne0 c = search found_5

pub returns-then-w6-w5-ne0 : goal.returns-then-w6-w5-ne0
returns-then-w6-w5-ne0 c = search found_4

pub returns-then-w3-ne0 : goal.returns-then-w3-ne0
returns-then-w3-ne0 c = search found_3

pub returns-then-w2-ne0 : goal.returns-then-w2-ne0
returns-then-w2-ne0 c = search found_2

pub returns-then-w1-ne0 : goal.returns-then-w1-ne0
returns-then-w1-ne0 c = search found_1

pub returns : goal.returns
returns c = search found_none
