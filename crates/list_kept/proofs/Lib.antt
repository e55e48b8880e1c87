mod AskedLoop
